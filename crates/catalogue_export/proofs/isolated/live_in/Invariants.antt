use Rattle.std.proofs.Common.{◌≡◌, ◌+◌, ◌≤◌, drop, length}
use Rattle.std.specs.Prelude.{filter_map}
use Rattle.act_model.specs.Deeds.{deeds}
use Rattle.act_model.specs.Discoveries.{seen_at}
use Rattle.act_model.specs.Holdings.{holdings}
use Rattle.catalogue_export.proofs.isolated.live_in.Given as goal

-- those that were counted and the live ones of what is left are the live ones of all
abbrev pub invariant-loop-k : goal.invariant-loop-k
invariant-loop-k g l =
    let seen = seen_at (holdings (deeds (g.V.Shelf.history l.shelf))).observations in
    (l.live + length (filter_map seen (drop l.k-index l.items)) ≡ length (filter_map seen l.items)) × (l.live ≤ l.k-index)
