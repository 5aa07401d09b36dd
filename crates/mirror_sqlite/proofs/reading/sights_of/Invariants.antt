use Rattle.std.proofs.Common.{◌≡◌, map, take}
use Rattle.std.specs.List.{AllByRecursion}
use Rattle.mirror_store.specs.Rows.{IsSightRow}
use Rattle.mirror_sqlite.specs.Stored.{shown_sight}
use Rattle.mirror_sqlite.proofs.reading.sights_of.Given as goal

abbrev pub invariant-loop-row : goal.invariant-loop-row
invariant-loop-row l = (take l.row-index l.rows ≡ map shown_sight l.sights) × AllByRecursion IsSightRow l.sights
