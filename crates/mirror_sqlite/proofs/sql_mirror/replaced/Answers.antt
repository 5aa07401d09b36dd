use Rattle.std.proofs.Common.{not, refl, ap, ◌∙◌}
use Rattle.sqlite.proofs.Callers.{memory_is_clean}
use Rattle.mirror_sqlite.specs.SqlMirrors.{lists_of}
use Rattle.mirror_sqlite.proofs.Back.{after_replace}
use Rattle.mirror_sqlite.proofs.sql_mirror.replaced.Goals as goal

pub returns-clause-ready : goal.returns-clause-ready
returns-clause-ready c =
    (after_replace c.in-Ok.current c.replace-answer.new.conn c.args.rows.now (lists_of c.args.conn) c.replace-answer.result
    c.in-Ok.ensures.ready c.in-Ok.ensures.same c.requires.rows c.replace-answer.ensures.mode
    (c.is_autocommit-settled.ensures.settled (c.is_autocommit-settled.ensures.value ∙ ap not c.in-Ok.ensures.ready.autocommit) refl)
    (c.replace-answer.ensures.replaced (memory_is_clean c.replace-answer.new.conn))
    (c.replace-answer.ensures.kept (memory_is_clean c.replace-answer.new.conn))).0

pub returns-clause-replaced : goal.returns-clause-replaced
returns-clause-replaced c =
    (after_replace c.in-Ok.current c.replace-answer.new.conn c.args.rows.now (lists_of c.args.conn) c.replace-answer.result
    c.in-Ok.ensures.ready c.in-Ok.ensures.same c.requires.rows c.replace-answer.ensures.mode
    (c.is_autocommit-settled.ensures.settled (c.is_autocommit-settled.ensures.value ∙ ap not c.in-Ok.ensures.ready.autocommit) refl)
    (c.replace-answer.ensures.replaced (memory_is_clean c.replace-answer.new.conn))
    (c.replace-answer.ensures.kept (memory_is_clean c.replace-answer.new.conn))).1

pub returns-clause-kept : goal.returns-clause-kept
returns-clause-kept c =
    (after_replace c.in-Ok.current c.replace-answer.new.conn c.args.rows.now (lists_of c.args.conn) c.replace-answer.result
    c.in-Ok.ensures.ready c.in-Ok.ensures.same c.requires.rows c.replace-answer.ensures.mode
    (c.is_autocommit-settled.ensures.settled (c.is_autocommit-settled.ensures.value ∙ ap not c.in-Ok.ensures.ready.autocommit) refl)
    (c.replace-answer.ensures.replaced (memory_is_clean c.replace-answer.new.conn))
    (c.replace-answer.ensures.kept (memory_is_clean c.replace-answer.new.conn))).2
