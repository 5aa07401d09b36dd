use Rattle.std.proofs.Common.{ℕ, ◌+◌, ◌<◌, ◌^◌, ◌∷◌, ◌++◌, [], List, length, ap, sym, subst, arith}
use Rattle.mark_index.specs.Marked.{Marked, AreChained}
use Rattle.mark_index.proofs.ChainLemmas.{unmarked_chained}
use Rattle.mark_index.proofs.chained.MarkIndex.push_unmarked.Goals as goal

pub invariant_of-self : goal.invariant_of-self
invariant_of-self c =
    let marks = c.self.inside.marks.items in
    let befores = c.self.inside.befores.items in
    let table = c.self.inside.slots.items in
    let few : length marks + 1 < 2 ^ 32 = omega (arith, ap (λ (m : Marked). m.room) c.self.view_is, c.requires) in
    subst (λ (xs : List ℕ). AreChained xs c.push_reserved.new.self.items table) (sym c.push_reserved-2.ensures.items)
    (subst (λ (xs : List ℕ). AreChained (marks ++ 0 ∷ []) xs table) (sym c.push_reserved.ensures.items)
    (unmarked_chained marks befores table c.self.invariant few))
