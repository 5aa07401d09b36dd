use Rattle.std.proofs.Common.{not, refl, ap, ◌∙◌}
use Rattle.sqlite.proofs.Callers.{memory_is_clean}
use Rattle.mirror_sqlite.specs.SqlMirrors.{lists_of}
use Rattle.mirror_sqlite.proofs.Adding.{passed}
use Rattle.mirror_sqlite.proofs.Back.{after_query, sights_given}
use Rattle.mirror_sqlite.proofs.sql_mirror.listed_between.Goals as goal

pub returns-clause-ready : goal.returns-clause-ready
returns-clause-ready c =
    (after_query c.in-Ok.current c.between-answer.new.conn (lists_of c.args.conn) c.in-Ok.ensures.ready c.in-Ok.ensures.same
    (c.between-answer.ensures.mode c.in-Ok.ensures.ready.autocommit)
    (c.is_autocommit-settled.ensures.settled (c.is_autocommit-settled.ensures.value ∙ ap not c.in-Ok.ensures.ready.autocommit) refl)
    (c.between-answer.ensures.kept (memory_is_clean c.between-answer.new.conn))).0

pub returns-clause-kept : goal.returns-clause-kept
returns-clause-kept c =
    (after_query c.in-Ok.current c.between-answer.new.conn (lists_of c.args.conn) c.in-Ok.ensures.ready c.in-Ok.ensures.same
    (c.between-answer.ensures.mode c.in-Ok.ensures.ready.autocommit)
    (c.is_autocommit-settled.ensures.settled (c.is_autocommit-settled.ensures.value ∙ ap not c.in-Ok.ensures.ready.autocommit) refl)
    (c.between-answer.ensures.kept (memory_is_clean c.between-answer.new.conn))).1

pub returns-clause-given : goal.returns-clause-given
returns-clause-given c =
    sights_given c.args.from c.args.to _ _ c.in-Ok.current (lists_of c.args.conn) c.between-answer.result
    (passed c.args.from _ c.ranges.from refl) (passed c.args.to _ c.ranges.to refl) c.in-Ok.ensures.ready c.in-Ok.ensures.same
    (c.between-answer.ensures.lists (memory_is_clean c.between-answer.new.conn))
