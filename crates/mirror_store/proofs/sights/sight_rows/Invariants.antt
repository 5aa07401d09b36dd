use Rattle.std.proofs.Common.{◌≡◌}
use Rattle.std.specs.Prelude.{filter_map}
use Rattle.act_model.specs.Deeds.{deeds}
use Rattle.act_model.specs.Shelves.{numbers_to}
use Rattle.mirror_store.specs.Mirrored.{sight_of}
use Rattle.mirror_store.proofs.sights.sight_rows.Given as goal

-- the rows of the observations so far
abbrev pub invariant-loop-before : goal.invariant-loop-before
invariant-loop-before g l = l.rows ≡ filter_map (sight_of (deeds (g.V.Shelf.history l.shelf))) (numbers_to l.before)
