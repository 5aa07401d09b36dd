use Rattle.std.proofs.Common.{subst, ap}
use Rattle.std.specs.Prelude.{is_some}
use Rattle.ordered_list.specs.Orders.{FoundAt, BelongsAt}
use Rattle.ordered_list.proofs.PlaceLemmas.{set_there, found_there, found_nowhere}
use Rattle.ordered_list.proofs.changes.replace.Goals as goal

pub returns-in-Ok-clause-replaced : goal.returns-in-Ok-clause-replaced
returns-in-Ok-clause-replaced g c =
    set_there c.args.item c.args.items.now.items c.in-Ok.place (subst (λ ys. FoundAt g.T.Ord.cmp c.args.item ys c.in-Ok.place) c.as_slice.ensures.value c.in-Ok.ensures.found)

pub returns-in-Err-clause-missing : goal.returns-in-Err-clause-missing
returns-in-Err-clause-missing g c =
    found_nowhere c.args.item c.args.items.now.items c.in-Err.place (subst (λ ys. BelongsAt g.T.Ord.cmp c.args.item ys c.in-Err.place) c.as_slice.ensures.value c.in-Err.ensures.gap)

pub returns-in-Ok-clause-there : goal.returns-in-Ok-clause-there
returns-in-Ok-clause-there g c =
    ap is_some (found_there c.args.item c.args.items.now.items c.in-Ok.place c.args.item (subst (λ ys. FoundAt g.T.Ord.cmp c.args.item ys c.in-Ok.place) c.as_slice.ensures.value c.in-Ok.ensures.found))
