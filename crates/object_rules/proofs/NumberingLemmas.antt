-- A walk that takes those of a list that pass.
use Rattle.std.proofs.Common.{◌≡◌, ℕ, ◌+◌, ◌<◌, ◌≤◌, Bool, true, false, cond, List, [], ◌∷◌, ◌++◌, length, drop, Some, sym, ap, ◌∙◌, append_assoc, arith}
use Rattle.std.specs.Prelude.{filter, slice_get}
use Rattle.std.proofs.lemmas.List.{drop_more, length-append}
use Rattle.std.proofs.lemmas.List.Elements.{filter-append}
use Rattle.std.proofs.lemmas.Option.{get_or_from_slice_get}

module _ {X : Type 0} (test : X → Bool) where
  -- one more was looked at
  pub walked : (items : List X) (place : ℕ) (x : X) (found new all : List X) → Some x ≡ slice_get items place → place < length items
      → new ≡ found ++ filter test (x ∷ []) → found ++ filter test (drop place items) ≡ all → new ++ filter test (drop (place + 1) items) ≡ all
  walked items place x found new all there within new_is is =
      let rest = drop (place + 1) items in
      let here : drop place items ≡ x ∷ rest =
      drop_more items place x within ∙ ap (λ (y : X). y ∷ rest) (get_or_from_slice_get items place x x (sym there)) in
      ap (λ (ys : List X). ys ++ filter test rest) new_is ∙ append_assoc found (filter test (x ∷ [])) (filter test rest)
      ∙ ap (λ (ys : List X). found ++ ys) (sym (filter-append test (x ∷ []) rest) ∙ ap (filter test) (sym here)) ∙ is

  one_at_most : (x : X) → length (filter test (x ∷ [])) ≤ 1
  one_at_most x = by (test x)
    where
      by : (b : Bool) → length (cond b (x ∷ []) []) ≤ 1
      by true = omega arith
      by false = omega arith

  -- and there are at most this many still
  pub walked_within : (x : X) (found new : List X) (most : ℕ) → new ≡ found ++ filter test (x ∷ []) → length found ≤ most → ¬ (length found ≡ most) → length new ≤ most
  walked_within x found new most new_is within other =
      let count : length new ≡ length found + length (filter test (x ∷ [])) = ap length new_is ∙ length-append found (filter test (x ∷ [])) in
      let one = one_at_most x in
      omega (arith, count, one, within, other)
