use Rattle.std.proofs.Common.{◌≡◌, ◌++◌, flat_map, filter}
use Rattle.act_model.specs.Deeds.{deeds}
use Rattle.act_model.specs.Holdings.{holdings}
use Rattle.act_model.specs.QueryTexts.{live_line}
use Rattle.act_model.specs.Shelves.{has_no_home, numbers_to}
use Rattle.catalogue_export.proofs.isolated.push_isolated.Given as goal

-- the lines of the isolated ones among the tracklets so far
abbrev pub invariant-loop-before : goal.invariant-loop-before
invariant-loop-before g l =
    let held = holdings (deeds (g.V.Shelf.history l.shelf)) in
    l.out ≡ l.fn.out ++ flat_map (live_line held.observations) (filter (has_no_home held.tracklets) (numbers_to l.before))
