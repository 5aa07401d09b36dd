-- Sums over lists of which one item changes.
use Rattle.std.proofs.Common.{◌≡◌, ℕ, zero, suc, ◌+◌, ◌≤◌, ◌<◌, ◌≢◌, List, [], ◌∷◌, ◌++◌, length, set, refl, sym, ap, arith}
use Rattle.std.specs.Prelude.{sum_by}
use Rattle.std.proofs.lemmas.List.Sums.{sum_by-append, sum_by-cons}
use mathlib.Core.Option.{some, some-injective, some-ne-none}
use lib.ListN.{get_elem?}

module _ {A : Type 0} (f : A → ℕ) where
  -- the sum where one item was put in the place of another
  pub sum_set : (xs : List A) (i : ℕ) (x y : A) → get_elem? xs i ≡ some x → sum_by f (set xs i y) + f x ≡ sum_by f xs + f y
  sum_set [] i x y at = absurd (some-ne-none x (sym at))
  sum_set (z ∷ zs) zero x y at =
      let here : f z ≡ f x = ap f (some-injective z x at) in
      let before = sum_by-cons f z zs in
      let after = sum_by-cons f y zs in
      omega arith
  sum_set (z ∷ zs) (suc i) x y at =
      let rest = sum_set zs i x y at in
      let before = sum_by-cons f z zs in
      let after = sum_by-cons f z (set zs i y) in
      omega arith

  pub sum_push : (xs : List A) (x : A) → sum_by f (xs ++ x ∷ []) ≡ sum_by f xs + f x
  sum_push xs x = let all = sum_by-append f xs (x ∷ []) in let one = sum_by-cons f x [] in omega arith

  -- one item weighs no more than all
  pub sum_one : (xs : List A) (i : ℕ) (x : A) → get_elem? xs i ≡ some x → f x ≤ sum_by f xs
  sum_one [] i x at = absurd (some-ne-none x (sym at))
  sum_one (z ∷ zs) zero x at =
      let here : f z ≡ f x = ap f (some-injective z x at) in
      let all = sum_by-cons f z zs in
      omega arith
  sum_one (z ∷ zs) (suc i) x at =
      let rest = sum_one zs i x at in
      let all = sum_by-cons f z zs in
      omega arith

  -- two items weigh no more than all
  pub sum_two : (xs : List A) (i j : ℕ) (x y : A) → i ≢ j → get_elem? xs i ≡ some x → get_elem? xs j ≡ some y → f x + f y ≤ sum_by f xs
  sum_two [] i j x y other at at' = absurd (some-ne-none x (sym at))
  sum_two (z ∷ zs) zero zero x y other at at' = absurd (other refl)
  sum_two (z ∷ zs) zero (suc j) x y other at at' =
      let here : f z ≡ f x = ap f (some-injective z x at) in
      let there = sum_one zs j y at' in
      let all = sum_by-cons f z zs in
      omega arith
  sum_two (z ∷ zs) (suc i) zero x y other at at' =
      let here : f z ≡ f y = ap f (some-injective z y at') in
      let there = sum_one zs i x at in
      let all = sum_by-cons f z zs in
      omega arith
  sum_two (z ∷ zs) (suc i) (suc j) x y other at at' =
      let rest = sum_two zs i j x y (λ same. other (ap suc same)) at at' in
      let all = sum_by-cons f z zs in
      omega arith

  -- where no item weighs anything, all weigh nothing
  pub sum_none : (xs : List A) → ((i : ℕ) (x : A) → get_elem? xs i ≡ some x → f x ≡ 0) → sum_by f xs ≡ 0
  sum_none [] none = refl
  sum_none (z ∷ zs) none =
      let here = none zero z refl in
      let rest = sum_none zs (λ i x at. none (suc i) x at) in
      let all = sum_by-cons f z zs in
      omega arith

-- where no item weighs more by f than by g, all don't
pub sum_le : {A : Type 0} (f g : A → ℕ) (xs : List A) → ((i : ℕ) (x : A) → get_elem? xs i ≡ some x → f x ≤ g x) → sum_by f xs ≤ sum_by g xs
sum_le f g [] le = omega arith
sum_le f g (z ∷ zs) le =
    let here = le zero z refl in
    let rest = sum_le f g zs (λ i x at. le (suc i) x at) in
    let all = sum_by-cons f z zs in
    let all' = sum_by-cons g z zs in
    omega arith

-- an item stands below the length
pub at_below : {A : Type 0} (xs : List A) (i : ℕ) (x : A) → get_elem? xs i ≡ some x → i < length xs
at_below [] i x at = absurd (some-ne-none x (sym at))
at_below (z ∷ zs) zero x at = omega arith
at_below (z ∷ zs) (suc i) x at = let rest = at_below zs i x at in omega arith
