use Rattle.std.proofs.Common.{◌≡◌, ℕ, ◌<◌, List, [], replicate, sym, subst}
use Rattle.std.proofs.lemmas.Nat.{pow_pos}
use Rattle.mark_index.specs.declared.table.Slot.{Slot}
use Rattle.mark_index.specs.Marked.{AreChained}
use Rattle.mark_index.proofs.ChainLemmas.{no_mark, none_chained}
use Rattle.mark_index.proofs.chained.MarkIndex.with_capacity.Goals as goal

pub invariant_of-result : goal.invariant_of-result
invariant_of-result c =
    let slots : ℕ = c.next_power_of_two.result in
    let power = c.next_power_of_two.ensures.power in
    let some : 0 < slots = subst (λ (n : ℕ). 0 < n) (sym power.1) (pow_pos power.0) in
    let table : c.in_ok-vec.field-0.items ≡ replicate slots no_mark = c.in_ok-vec.ensures.items_if_clones_equal (λ y is. is) in
    subst (λ (xs : List ℕ). AreChained xs c.in_ok-with_capacity-2.field-0.items c.in_ok-vec.field-0.items) (sym c.in_ok-with_capacity.ensures.items)
    (subst (λ (xs : List ℕ). AreChained [] xs c.in_ok-vec.field-0.items) (sym c.in_ok-with_capacity-2.ensures.items)
    (subst (λ (xs : List Slot). AreChained [] [] xs) (sym table) (none_chained slots some)))
