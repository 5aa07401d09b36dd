use Rattle.std.proofs.Common.{◌≡◌, ◌∷◌, ◌++◌, ℕ, List, length, take, drop, ap, sym, subst, ◌∙◌, arith}
use Rattle.std.specs.List.{insert, remove}
use Rattle.std.specs.List.Sorted.{IsPermutation}
use Rattle.std.proofs.lemmas.List.{take_at}
use Rattle.std.proofs.lemmas.List.Sorted.{IsPermutation-insert, IsPermutation-remove}
use Rattle.ordered_list.specs.Orders.{IsStrictlySorted}
use Rattle.identify_core.specs.declared.link.Link.{Link}
use Rattle.identify_core.specs.Keeping.{link_cmp, place_in}
use Rattle.identify_core.proofs.LinkLemmas.{linked, link_from_some}
use Rattle.identify_core.proofs.PlaceLemmas.{rising_insert, rising_remove, there_at}
use Rattle.identify_core.proofs.ChangeLemmas.{absent_rest, once_moved, given_moved, fewer_moved}
use Rattle.identify_core.proofs.IndexLemmas.{indexed_given}
use Rattle.identify_core.proofs.changes.give.Goals as goal

pub place_without-to-requires-clause-from : goal.place_without-to-requires-clause-from
place_without-to-requires-clause-from c =
    let links = c.args.links.now.items in
    let there = there_at c.args.link links c.requires.kept.sorted (link_from_some c.args.link.member c.args.link.principal links c.requires.there) c.args.link in
    let place : c.place_of-from.result ≡ place_in c.args.link links = c.place_of-from.ensures.count ∙ ap (place_in c.args.link) c.as_slice.ensures.value in
    let same : length c.as_slice-2.result.now ≡ length links = ap length c.as_slice-2.ensures.value in
    omega (arith, there.0, place, same)

pub move_to-requires-clause-from : goal.move_to-requires-clause-from
move_to-requires-clause-from c =
    let links = c.args.links.now.items in
    let there = there_at c.args.link links c.requires.kept.sorted (link_from_some c.args.link.member c.args.link.principal links c.requires.there) c.args.link in
    let place : c.place_of-from.result ≡ place_in c.args.link links = c.place_of-from.ensures.count ∙ ap (place_in c.args.link) c.as_slice.ensures.value in
    let same : length c.as_mut_slice.result.now ≡ length links = ap length c.as_mut_slice.ensures.value in
    omega (arith, there.0, place, same)

pub move_to-requires-clause-to : goal.move_to-requires-clause-to
move_to-requires-clause-to c =
    let one : length c.as_slice-2.result.now ≡ length c.args.links.now.items = ap length c.as_slice-2.ensures.value in
    let other : length c.as_mut_slice.result.now ≡ length c.args.links.now.items = ap length c.as_mut_slice.ensures.value in
    omega (arith, c.place_without-to.ensures.within, one, other)

-- the links but the one that stood at its place
abbrev rest : goal.After-insert → List Link
rest c = remove c.args.links.now.items (place_in c.args.link c.args.links.now.items)

abbrev now : goal.After-insert → List Link
now c = take c.args.links.now.len (c.move_to.new.links ++ drop (length c.move_to.new.links) c.args.links.now.items)

now_is : (c : goal.After-insert) → now c ≡ insert (rest c) (place_in (linked c.args.p c.args.link.member) (rest c)) (linked c.args.p c.args.link.member)
now_is c =
    let links = c.args.links.now.items in
    let same : length c.as_mut_slice.result.now ≡ length links = ap length c.as_mut_slice.ensures.value in
    let from : c.place_of-from.result ≡ place_in c.args.link links = c.place_of-from.ensures.count ∙ ap (place_in c.args.link) c.as_slice.ensures.value in
    let others : remove c.as_slice-2.result.now c.place_of-from.result ≡ rest c = ap (λ (ls : List Link). remove ls c.place_of-from.result) c.as_slice-2.ensures.value ∙ ap (remove links) from in
    let to : c.place_without-to.result ≡ place_in (linked c.args.p c.args.link.member) (rest c) = c.place_without-to.ensures.count ∙ ap (place_in (linked c.args.p c.args.link.member)) others in
    take_at c.move_to.new.links _ c.args.links.now.len (omega (arith, c.move_to.ensures.length, c.as_mut_slice.ensures.len))
    ∙ c.move_to.ensures.moved
    ∙ ap (λ (ls : List Link). insert (remove ls c.place_of-from.result) c.place_without-to.result (linked c.args.p c.args.link.member)) c.as_mut_slice.ensures.value
    ∙ ap (λ (n : ℕ). insert (remove links n) c.place_without-to.result (linked c.args.p c.args.link.member)) from
    ∙ ap (λ (n : ℕ). insert (rest c) n (linked c.args.p c.args.link.member)) to

fewer : (c : goal.After-insert) → IsPermutation c.args.links.now.items (c.args.link ∷ rest c)
fewer c =
    let links = c.args.links.now.items in
    let there = there_at c.args.link links c.requires.kept.sorted (link_from_some c.args.link.member c.args.link.principal links c.requires.there) c.args.link in
    IsPermutation-remove links (place_in c.args.link links) c.args.link there.0 (sym there.1)

more : (c : goal.After-insert) → IsPermutation (linked c.args.p c.args.link.member ∷ rest c) (now c)
more c = subst (IsPermutation (linked c.args.p c.args.link.member ∷ rest c)) (sym (now_is c)) (IsPermutation-insert (rest c) (place_in (linked c.args.p c.args.link.member) (rest c)) (linked c.args.p c.args.link.member))

pub returns-clause-principals : goal.returns-clause-principals
returns-clause-principals c = given_moved c.args.link c.args.p c.args.links.now.items (rest c) c.requires.kept.once (fewer c) (now c) (more c)

pub returns-clause-kept : goal.returns-clause-kept
returns-clause-kept c = record {
  sorted = subst (IsStrictlySorted link_cmp) (sym (now_is c))
      (rising_insert (linked c.args.p c.args.link.member) (rest c) (absent_rest c.args.link c.args.p c.args.links.now.items (rest c) c.requires.kept.once (fewer c))
      (rising_remove c.args.links.now.items (place_in c.args.link c.args.links.now.items) c.requires.kept.sorted));
  once = once_moved c.args.link c.args.p c.args.links.now.items (rest c) c.requires.kept.once (fewer c) (now c) (more c);
  indexed = indexed_given c.args.entries.now.items c.insert.new.self.items _ c.args.links.now.items (now c) c.insert.ensures.finds c.requires.kept.indexed (returns-clause-principals c);
}

pub returns-clause-fewer : goal.returns-clause-fewer
returns-clause-fewer c = fewer_moved c.args.link c.args.p c.args.links.now.items (rest c) c.requires.kept.once (fewer c) (now c) (more c)
