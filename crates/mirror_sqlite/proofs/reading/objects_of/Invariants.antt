use Rattle.std.proofs.Common.{◌≡◌, map, take}
use Rattle.std.specs.List.{AllByRecursion}
use Rattle.mirror_store.specs.Rows.{IsObjectRow}
use Rattle.mirror_sqlite.specs.Stored.{shown_object}
use Rattle.mirror_sqlite.proofs.reading.objects_of.Given as goal

abbrev pub invariant-loop-row : goal.invariant-loop-row
invariant-loop-row l = (take l.row-index l.rows ≡ map shown_object l.objects) × AllByRecursion IsObjectRow l.objects
