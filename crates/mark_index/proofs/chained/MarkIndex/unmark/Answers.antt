use Rattle.std.proofs.Common.{◌≡◌, ℕ, ◌+◌, ◌<◌, length, Option, IfSome, IfNone, rules, ap, sym, subst, ◌∙◌, arith}
use Rattle.std.specs.Prelude.{slice_index, slice_set, set}
use Rattle.std.proofs.lemmas.List.{get_or_default}
use Rattle.mark_index.specs.declared.table.Slot.{Slot}
use Rattle.mark_index.specs.Slots.{slot_of, slot_at}
use Rattle.mark_index.specs.Marked.{Marked, AreChained}
use Rattle.mark_index.proofs.ChainLemmas.{LeadsOn, unlinked_head, unlinked_before}
use Rattle.mark_index.proofs.chained.MarkIndex.unmark.Goals as goal
use Rattle.mark_index.proofs.chained.MarkIndex.unmark.Goals.{in-Some, in-None}

pub invariant_of-self : goal.invariant_of-self
invariant_of-self c =
    let marks = c.self.inside.marks.items in
    let befores = c.self.inside.befores.items in
    let table = c.self.inside.slots.items in
    let place : ℕ = c.args.place in
    let within : place < length marks = omega (arith, ap (λ (m : Marked). length m.marks) c.self.view_is, c.requires) in
    let own : c.index-mark.result.now ≡ slice_index marks place = c.index-mark.ensures ∙ get_or_default marks place _ 0 within in
    let some : 0 < slice_index marks place = omega (arith, c.if-mark-eq0.false, own) in
    let slots : c.len.result ≡ length table = search (rules) in
    let slot : c.slot_of-slot.result ≡ slot_of (length table) (slice_index marks place) =
    c.slot_of-slot.ensures.slot ∙ ap (λ (n : ℕ). slot_of n c.index-mark.result.now) slots ∙ ap (slot_of (length table)) own in
    let reached : c.loop-number.number ≡ place + 1 = omega (arith, c.loop-number-test.false, c.loop-number.invariant.late) in
    let before_within : place < length befores = omega (arith, within, c.self.invariant.as_many) in
    elim c.match-after.branch [
      | in-Some w ↦ (
          let before : w.index-in-Some.result.now ≡ slice_index befores place = w.index-in-Some.ensures ∙ get_or_default befores place _ 0 before_within in
          let next = subst (λ (after : Option ℕ). IfSome after (λ (p : ℕ). LeadsOn marks befores (length table) place p c.loop-number.number)) w.in-Some.is c.loop-number.invariant.next in
          let on = subst (λ (k : ℕ). LeadsOn marks befores (length table) place w.in-Some.newer k) reached next in
          rw w.self-inside-is
          (subst (λ (k : ℕ). AreChained (slice_set marks place 0) (slice_set befores w.in-Some.newer k) table) (sym before)
          (unlinked_before marks befores table c.self.invariant place within some w.in-Some.newer on)))
      | in-None w ↦ (
          let before : w.index-in-None.result.now ≡ slice_index befores place = w.index-in-None.ensures ∙ get_or_default befores place _ 0 before_within in
          let slot_within : c.slot_of-slot.result < length table = omega (arith, c.slot_of-slot.ensures.within, slots) in
          let found : w.index_mut-in-None.result.now ≡ slot_at table c.slot_of-slot.result = w.index_mut-in-None.ensures.value ∙ get_or_default table c.slot_of-slot.result _ _ slot_within in
          let newest = subst (λ (after : Option ℕ). IfNone after ((slot_at table (slot_of (length table) (slice_index marks place))).head ≡ c.loop-number.number)) w.in-None.is c.loop-number.invariant.newest in
          rw w.self-inside-is
          (subst (λ (k : ℕ). AreChained (slice_set marks place 0) befores (set table c.slot_of-slot.result (record { head = k; tags = w.index_mut-in-None.result.now.tags }))) (sym before)
          (subst (λ (s : Slot). AreChained (slice_set marks place 0) befores (set table c.slot_of-slot.result (record { head = slice_index befores place; tags = s.tags }))) (sym found)
          (subst (λ (s : ℕ). AreChained (slice_set marks place 0) befores (set table s (record { head = slice_index befores place; tags = (slot_at table s).tags }))) (sym slot)
          (unlinked_head marks befores table c.self.invariant place within some (omega (arith, slot_within, slot)) (newest ∙ reached))))))
    ]
