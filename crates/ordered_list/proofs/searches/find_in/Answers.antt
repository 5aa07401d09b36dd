use Rattle.std.proofs.Common.{Some, ap, sym, ◌∙◌}
use Rattle.ordered_list.proofs.PlaceLemmas.{found_there, found_nowhere}
use Rattle.ordered_list.proofs.searches.find_in.Goals as goal

pub returns-in-Ok : goal.returns-in-Ok
returns-in-Ok g c =
    ap Some c.index-items-place.is ∙ sym (found_there c.args.key.now c.args.items.now c.in-Ok.place c.index-items-place.result c.in-Ok.ensures.found)

pub returns-in-Err : goal.returns-in-Err
returns-in-Err g c = sym (found_nowhere c.args.key.now c.args.items.now c.in-Err.field-0 c.in-Err.ensures.gap)
