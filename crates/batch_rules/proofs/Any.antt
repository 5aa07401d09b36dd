-- Tests over lists, what is in a list, and the place of the first that passes a test.
use Rattle.std.proofs.Common.{◌≡◌, ℕ, suc, ◌+◌, ◌<◌, ◌≤◌, Bool, true, false, not, ◌||◌, cond, List, [], ◌∷◌, ◌++◌, length, refl, ap, sym, ◌∙◌, inl, inr, true≢false, lit≤, arith}
use Rattle.std.specs.Prelude.{◌⊎◌, count_by}
use Rattle.std.specs.List.{list_any, position_or_len}
use Rattle.std.proofs.lemmas.Bool.{cases_lt}
use Rattle.std.proofs.lemmas.List.Sums.{sum_by-cons, prefix_len-le-length}

module _ {A : Type 0} where
  -- an item is in a list
  abbrev pub IsIn : List A → A → Type 0
  IsIn [] x = ⊥
  IsIn (y ∷ ys) x = (y ≡ x) ⊎ IsIn ys x

  -- a fact of each item
  abbrev pub Each : (A → Type 0) → List A → Type 0
  Each P [] = Unit {0}
  Each P (x ∷ xs) = P x × Each P xs

  pub each_in : (P : A → Type 0) (xs : List A) → ((x : A) → IsIn xs x → P x) → Each P xs
  each_in P [] all = tt
  each_in P (x ∷ xs) all = (all x (inl refl), each_in P xs (λ y there. all y (inr there)))

  pub any_in : (p : A → Bool) (xs : List A) (x : A) → IsIn xs x → p x ≡ true → list_any p xs ≡ true
  any_in p [] x there _ = elim there [ ]
  any_in p (y ∷ ys) x (inl same) pass = ap (λ (b : Bool). b || list_any p ys) (ap p same ∙ pass)
  any_in p (y ∷ ys) x (inr there) pass = ap (λ (b : Bool). p y || b) (any_in p ys x there pass) ∙ either (p y)
    where
      either : (b : Bool) → b || true ≡ true
      either true = refl
      either false = refl

  pub in_any : (p : A → Bool) (xs : List A) → list_any p xs ≡ true → (x : A) × IsIn xs x × (p x ≡ true)
  in_any p [] pass = absurd (true≢false (sym pass))
  in_any p (y ∷ ys) pass = by (p y) refl pass (in_any p ys)
    where
      by : (b : Bool) → p y ≡ b → b || list_any p ys ≡ true → (list_any p ys ≡ true → (x : A) × IsIn ys x × (p x ≡ true)) → (x : A) × IsIn (y ∷ ys) x × (p x ≡ true)
      by true is pass rest = (y, inl refl, is)
      by false is pass rest =
          let found = rest pass in
          (found.0, inr found.1, found.2)

  pub any_none : (p : A → Bool) (xs : List A) → Each (λ x. p x ≡ false) xs → list_any p xs ≡ false
  any_none p [] none = refl
  any_none p (x ∷ xs) none = ap (λ (b : Bool). b || list_any p xs) none.0 ∙ any_none p xs none.1

  pub none_in : (p : A → Bool) (xs : List A) → list_any p xs ≡ false → (x : A) → IsIn xs x → p x ≡ false
  none_in p xs none x there = by (p x) refl
    where
      by : (b : Bool) → p x ≡ b → b ≡ false
      by false is = refl
      by true is = absurd (true≢false (sym (any_in p xs x there is) ∙ none))

  pub any_same : (p q : A → Bool) (xs : List A) → Each (λ x. p x ≡ q x) xs → list_any p xs ≡ list_any q xs
  any_same p q [] same = refl
  any_same p q (x ∷ xs) same = ap (λ (b : Bool). b || list_any p xs) same.0 ∙ ap (λ (b : Bool). q x || b) (any_same p q xs same.1)

  one_no_more : (p q : A → Bool) (y : A) → (p y ≡ true → q y ≡ true) → cond (p y) 1 0 ≤ cond (q y) 1 0
  one_no_more p q y less = by (p y) (q y) refl refl
    where
      by : (a b : Bool) → p y ≡ a → q y ≡ b → cond a 1 0 ≤ cond b 1 0
      by true true is is' = lit≤ tt
      by true false is is' = absurd (true≢false (sym (less is) ∙ is'))
      by false true is is' = lit≤ tt
      by false false is is' = lit≤ tt

  counts_no_more : (p q : A → Bool) (xs : List A) → ((y : A) → p y ≡ true → q y ≡ true) → count_by p xs ≤ count_by q xs
  counts_no_more p q [] less = lit≤ tt
  counts_no_more p q (y ∷ ys) less =
      omega (arith, one_no_more p q y (less y), counts_no_more p q ys less, sum_by-cons (λ (z : A). cond (p z) 1 0) y ys, sum_by-cons (λ (z : A). cond (q z) 1 0) y ys)

  -- a test that passes less, and not at an item that the other one passes, counts fewer
  pub counts_fewer : (p q : A → Bool) (xs : List A) (x : A) → IsIn xs x → p x ≡ false → q x ≡ true → ((y : A) → p y ≡ true → q y ≡ true) → count_by p xs < count_by q xs
  counts_fewer p q [] x there fails pass less = elim there [ ]
  counts_fewer p q (y ∷ ys) x (inl same) fails pass less =
      let here : p y ≡ false = ap p same ∙ fails in
      let there : q y ≡ true = ap q same ∙ pass in
      let low : ◌≡◌ {A = ℕ} (cond (p y) 1 0) 0 = ap (λ (b : Bool). cond b 1 0) here in
      let high : ◌≡◌ {A = ℕ} (cond (q y) 1 0) 1 = ap (λ (b : Bool). cond b 1 0) there in
      omega (arith, counts_no_more p q ys less, sum_by-cons (λ (z : A). cond (p z) 1 0) y ys, sum_by-cons (λ (z : A). cond (q z) 1 0) y ys)
  counts_fewer p q (y ∷ ys) x (inr there) fails pass less =
      omega (arith, one_no_more p q y (less y), counts_fewer p q ys x there fails pass less, sum_by-cons (λ (z : A). cond (p z) 1 0) y ys, sum_by-cons (λ (z : A). cond (q z) 1 0) y ys)

  -- one more goes last
  pub any_push : (p : A → Bool) (xs : List A) (x : A) → list_any p (xs ++ x ∷ []) ≡ p x || list_any p xs
  any_push p [] x = refl
  any_push p (y ∷ ys) x = ap (λ (b : Bool). p y || b) (any_push p ys x) ∙ turned (p y) (p x) (list_any p ys)
    where
      turned : (a b c : Bool) → a || (b || c) ≡ b || (a || c)
      turned true true c = refl
      turned true false c = refl
      turned false b c = refl

  -- ---- the place of the first that passes

  pub any_placed : (p : A → Bool) (xs : List A) → position_or_len p xs < length xs → list_any p xs ≡ true
  any_placed p [] within = absurd (omega (arith, within))
  any_placed p (x ∷ xs) within = by (p x) within (any_placed p xs)
    where
      by : (b : Bool) → cond (not b) (1 + position_or_len p xs) 0 < suc (length xs) → (position_or_len p xs < length xs → list_any p xs ≡ true) → b || list_any p xs ≡ true
      by true within rest = refl
      by false within rest = rest (omega (arith, within))

  pub placed_any : (p : A → Bool) (xs : List A) → list_any p xs ≡ true → position_or_len p xs < length xs
  placed_any p [] found = absurd (true≢false (sym found))
  placed_any p (x ∷ xs) found = by (p x) found (placed_any p xs)
    where
      by : (b : Bool) → b || list_any p xs ≡ true → (list_any p xs ≡ true → position_or_len p xs < length xs) → cond (not b) (1 + position_or_len p xs) 0 < suc (length xs)
      by true found rest = omega arith
      by false found rest = omega (arith, rest found)

  -- no place is past the end
  pub longest : (p : A → Bool) (xs : List A) → position_or_len p xs ≤ length xs
  longest p xs = prefix_len-le-length (λ (x : A). not (p x)) xs

  -- where none passes, it is the end
  pub none_placed : (p : A → Bool) (xs : List A) → list_any p xs ≡ false → position_or_len p xs ≡ length xs
  none_placed p xs none = elim (cases_lt (position_or_len p xs) (length xs)) [
    | inl low ↦ absurd (true≢false (sym (any_placed p xs low) ∙ none))
    | inr high ↦ omega (arith, high, longest p xs)
  ]
