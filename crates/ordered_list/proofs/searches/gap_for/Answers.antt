use Rattle.std.proofs.Common.{get_or, sym, ◌∙◌}
use Rattle.std.proofs.lemmas.Option.{none-some}
use Rattle.ordered_list.proofs.PlaceLemmas.{found_there}
use Rattle.ordered_list.proofs.searches.gap_for.Goals as goal

-- a key that isn't found has no place where it stands
pub returns-in-Ok : goal.returns-in-Ok
returns-in-Ok g c =
    absurd (none-some (get_or c.args.items.now c.in-Ok.place c.args.key.now)
    (sym c.requires.missing ∙ found_there c.args.key.now c.args.items.now c.in-Ok.place c.args.key.now c.in-Ok.ensures.found))
