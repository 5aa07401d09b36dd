use Rattle.std.proofs.Common.{◌∙◌}
use Rattle.sqlite.proofs.Callers.{memory_is_clean}
use Rattle.mirror_sqlite.proofs.tables.empty_tables.Goals as goal

pub returns-clause-empty : goal.returns-clause-empty
returns-clause-empty c =
    let one = c.in_ok-make_objects.ensures (memory_is_clean c.make_objects.new.conn) c.in-Ok.ensures.empty.2 in
    let two = c.in_ok-make_sights.ensures (memory_is_clean c.make_sights.new.conn) one.0 in
    record { schema = two.0; objects = two.1 ∙ one.1; sights = two.2 }

pub returns-clause-autocommit : goal.returns-clause-autocommit
returns-clause-autocommit c =
    let one = c.in_ok-make_objects.ensures (memory_is_clean c.make_objects.new.conn) c.in-Ok.ensures.empty.2 in
    let two = c.in_ok-make_sights.ensures (memory_is_clean c.make_sights.new.conn) one.0 in
    two.3 ∙ one.2 ∙ c.in-Ok.ensures.empty.0.autocommit
