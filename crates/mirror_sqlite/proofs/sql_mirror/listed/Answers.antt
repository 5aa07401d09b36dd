use Rattle.std.proofs.Common.{not, refl, ap, ◌∙◌}
use Rattle.sqlite.proofs.Callers.{memory_is_clean}
use Rattle.mirror_sqlite.specs.SqlMirrors.{lists_of}
use Rattle.mirror_sqlite.proofs.Back.{after_query, objects_given}
use Rattle.mirror_sqlite.proofs.sql_mirror.listed.Goals as goal

pub returns-clause-ready : goal.returns-clause-ready
returns-clause-ready c =
    (after_query c.in-Ok.current c.objects-answer.new.conn (lists_of c.args.conn) c.in-Ok.ensures.ready c.in-Ok.ensures.same
    (c.objects-answer.ensures.mode c.in-Ok.ensures.ready.autocommit)
    (c.is_autocommit-settled.ensures.settled (c.is_autocommit-settled.ensures.value ∙ ap not c.in-Ok.ensures.ready.autocommit) refl)
    (c.objects-answer.ensures.kept (memory_is_clean c.objects-answer.new.conn))).0

pub returns-clause-kept : goal.returns-clause-kept
returns-clause-kept c =
    (after_query c.in-Ok.current c.objects-answer.new.conn (lists_of c.args.conn) c.in-Ok.ensures.ready c.in-Ok.ensures.same
    (c.objects-answer.ensures.mode c.in-Ok.ensures.ready.autocommit)
    (c.is_autocommit-settled.ensures.settled (c.is_autocommit-settled.ensures.value ∙ ap not c.in-Ok.ensures.ready.autocommit) refl)
    (c.objects-answer.ensures.kept (memory_is_clean c.objects-answer.new.conn))).1

pub returns-clause-given : goal.returns-clause-given
returns-clause-given c =
    objects_given c.in-Ok.current (lists_of c.args.conn) c.objects-answer.result c.in-Ok.ensures.ready c.in-Ok.ensures.same
    (c.objects-answer.ensures.lists (memory_is_clean c.objects-answer.new.conn))
