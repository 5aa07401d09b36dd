use Rattle.std.proofs.Common.{Bool, cond, ap, ◌∙◌}
use Rattle.std.specs.List.{insert}
use Rattle.ordered_list.proofs.PlaceLemmas.{insert_there}
use Rattle.ordered_list.proofs.changes.put_at.Goals as goal

pub returns-clause-inserted : goal.returns-clause-inserted
returns-clause-inserted g c =
    let xs = c.args.items.now.items in
    c.insert.ensures.items ∙ ap (λ (b : Bool). cond b (insert xs c.args.place c.args.item) xs) (c.insert.ensures.succeeds c.requires.room)
    ∙ insert_there c.args.item xs c.args.place c.requires.gap
