use Rattle.std.proofs.Common.{Some, sym, subst, ap, ◌∙◌}
use Rattle.ordered_list.specs.Orders.{FoundAt, BelongsAt}
use Rattle.ordered_list.proofs.PlaceLemmas.{found_there, found_nowhere, remove_there}
use Rattle.ordered_list.proofs.RemoveLemmas.{removed_none}
use Rattle.ordered_list.proofs.changes.take_out.Goals as goal

pub returns-in-Ok-clause-gives : goal.returns-in-Ok-clause-gives
returns-in-Ok-clause-gives g c =
    let at = subst (λ ys. FoundAt g.T.Ord.cmp c.args.key.now ys c.in-Ok.place) c.as_slice.ensures.value c.in-Ok.ensures.found in
    ap Some c.remove.ensures.value ∙ sym (found_there c.args.key.now c.args.items.now.items c.in-Ok.place c.remove.result at)

pub returns-in-Ok-clause-removed : goal.returns-in-Ok-clause-removed
returns-in-Ok-clause-removed g c =
    let at = subst (λ ys. FoundAt g.T.Ord.cmp c.args.key.now ys c.in-Ok.place) c.as_slice.ensures.value c.in-Ok.ensures.found in
    c.remove.ensures.items ∙ remove_there c.args.key.now c.args.items.now.items c.in-Ok.place at

pub returns-in-Err-clause-gives : goal.returns-in-Err-clause-gives
returns-in-Err-clause-gives g c =
    let gap = subst (λ ys. BelongsAt g.T.Ord.cmp c.args.key.now ys c.in-Err.field-0) c.as_slice.ensures.value c.in-Err.ensures.gap in
    sym (found_nowhere c.args.key.now c.args.items.now.items c.in-Err.field-0 gap)

pub returns-in-Err-clause-removed : goal.returns-in-Err-clause-removed
returns-in-Err-clause-removed g c =
    let gap = subst (λ ys. BelongsAt g.T.Ord.cmp c.args.key.now ys c.in-Err.field-0) c.as_slice.ensures.value c.in-Err.ensures.gap in
    sym (removed_none g.T.Ord.cmp c.args.key.now c.args.items.now.items (found_nowhere c.args.key.now c.args.items.now.items c.in-Err.field-0 gap))
