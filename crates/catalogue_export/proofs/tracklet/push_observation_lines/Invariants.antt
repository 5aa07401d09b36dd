use Rattle.std.proofs.Common.{◌≡◌, ◌++◌, drop, flat_map}
use Rattle.act_model.specs.Deeds.{deeds}
use Rattle.act_model.specs.Holdings.{holdings}
use Rattle.act_model.specs.QueryTexts.{observation_line}
use Rattle.catalogue_export.proofs.tracklet.push_observation_lines.Given as goal

-- the lines so far and those of what is left are those of all
abbrev pub invariant-loop-k : goal.invariant-loop-k
invariant-loop-k g l =
    let line = observation_line (holdings (deeds (g.V.Shelf.history l.shelf))).observations in
    l.out ++ flat_map line (drop l.k-index l.items) ≡ l.fn.out ++ flat_map line l.items
