use Rattle.std.proofs.Common.{◌≡◌, ℕ, ◌+◌, ◌<◌, ◌^◌, ◌∷◌, ◌++◌, [], List, length, rules, ap, sym, subst, ◌∙◌, arith}
use Rattle.std.specs.Prelude.{set}
use Rattle.std.proofs.lemmas.List.{get_or_default}
use Rattle.mark_index.specs.declared.table.Slot.{Slot}
use Rattle.mark_index.specs.Slots.{slot_of, slot_at, HasTag}
use Rattle.mark_index.specs.Marked.{Marked, AreChained}
use Rattle.mark_index.proofs.ChainLemmas.{one_chained}
use Rattle.mark_index.proofs.chained.MarkIndex.push.Goals as goal

pub invariant_of-self : goal.invariant_of-self
invariant_of-self c =
    let marks = c.self.inside.marks.items in
    let befores = c.self.inside.befores.items in
    let table = c.self.inside.slots.items in
    let place : ℕ = c.slot_of-slot.result in
    let tags : ℕ = c.with_tag.result in
    let slots : c.len.result ≡ length table = search (rules) in
    let few : length marks + 1 < 2 ^ 32 = omega (arith, ap (λ (m : Marked). m.room) c.self.view_is, c.requires.room) in
    let place_is : place ≡ slot_of (length table) c.args.mark = c.slot_of-slot.ensures.slot ∙ ap (λ (n : ℕ). slot_of n c.args.mark) slots in
    let within : place < length table = omega (arith, c.slot_of-slot.ensures.within, slots) in
    let found : c.index-found.result.now ≡ slot_at table place = c.index-found.ensures ∙ get_or_default table place _ _ within in
    let others : (other : ℕ) → HasTag (slot_at table place).tags other → HasTag tags other =
    λ other had. c.with_tag.ensures.others other (subst (λ (slot : Slot). HasTag slot.tags other) (sym found) had) in
    let number : c.len-2.result ≡ length marks + 1 = search (rules) in
    let befores_are : c.push_reserved.new.self.items ≡ befores ++ (slot_at table place).head ∷ [] = c.push_reserved.ensures.items ∙ ap (λ (slot : Slot). befores ++ slot.head ∷ []) found in
    subst (λ (xs : List ℕ). AreChained xs c.push_reserved.new.self.items (set table place (record { head = c.len-2.result; tags = tags }))) (sym c.push_reserved-2.ensures.items)
    (subst (λ (xs : List ℕ). AreChained (marks ++ c.args.mark ∷ []) xs (set table place (record { head = c.len-2.result; tags = tags }))) (sym befores_are)
    (subst (λ (n : ℕ). AreChained (marks ++ c.args.mark ∷ []) (befores ++ (slot_at table place).head ∷ []) (set table place (record { head = n; tags = tags }))) (sym number)
    (one_chained marks befores table c.self.invariant c.args.mark place tags c.requires.some few place_is within c.with_tag.ensures.own others)))
