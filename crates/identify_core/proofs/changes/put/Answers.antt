use Rattle.std.proofs.Common.{◌≡◌, ◌∷◌, Bool, true, cond, is_ok, ℕ, ap, sym, subst, ◌∙◌}
use Rattle.std.specs.List.{insert}
use Rattle.std.specs.List.Sorted.{IsPermutation}
use Rattle.std.proofs.lemmas.List.Sorted.{IsPermutation-insert}
use Rattle.ordered_list.specs.Orders.{IsStrictlySorted}
use Rattle.identify_core.specs.Keeping.{link_cmp, place_in}
use Rattle.identify_core.proofs.PlaceLemmas.{rising_insert}
use Rattle.identify_core.proofs.changes.put.Goals as goal

put_in : (c : goal.Else-is_err) → c.insert.new.self.items ≡ insert c.args.links.now.items (place_in c.args.link c.args.links.now.items) c.args.link
put_in c =
    let links = c.args.links.now.items in
    let ok : is_ok c.insert.result ≡ true = c.insert.ensures.succeeds c.requires.room in
    c.insert.ensures.items
    ∙ ap (λ (b : Bool). cond b (insert links c.place_of-place.result c.args.link) links) ok
    ∙ ap (λ (n : ℕ). insert links n c.args.link) (c.place_of-place.ensures.count ∙ ap (place_in c.args.link) c.as_slice.ensures.value)

pub returns-clause-sorted : goal.returns-clause-sorted
returns-clause-sorted c = subst (IsStrictlySorted link_cmp) (sym (put_in c)) (rising_insert c.args.link c.args.links.now.items c.requires.absent c.requires.sorted)

pub returns-clause-more : goal.returns-clause-more
returns-clause-more c =
    let links = c.args.links.now.items in
    subst (IsPermutation (c.args.link ∷ links)) (sym (put_in c)) (IsPermutation-insert links (place_in c.args.link links) c.args.link)
