-- Filters of lists, and lists that fall in time.
use Rattle.std.proofs.Common.{◌≡◌, Bool, true, false, ◌&&◌, ◌||◌, cond, List, [], ◌∷◌, length, filter, refl, ap, sym, ◌∙◌, inl, inr}
use Rattle.std.specs.Prelude.{int_lt}
use Rattle.std.specs.List.{list_any}
use Rattle.std.specs.List.Sorted.{IsPermutation}
use Rattle.std.proofs.lemmas.List.Sorted.{list_any-IsPermutation, sum_by-IsPermutation}
use Rattle.std.proofs.lemmas.List.Sums.{length-filter}
use Rattle.obs_record.specs.declared.sighting.Sighting.{Sighting}
use Rattle.act_model.specs.BatchRules.{is_too_fast}
use Rattle.batch_rules.proofs.Any.{IsIn, Each, any_same}
use Rattle.batch_rules.proofs.Fast.{any_fast}

module _ {A : Type 0} where
  pub each_at : (P : A → Type 0) (xs : List A) (x : A) → Each P xs → IsIn xs x → ((y z : A) → y ≡ z → P y → P z) → P x
  each_at P [] x each there move = elim there [ ]
  each_at P (y ∷ ys) x each (inl same) move = move y x same each.0
  each_at P (y ∷ ys) x each (inr there) move = each_at P ys x each.1 there move

  pub each_filter : (P : A → Type 0) (p : A → Bool) (xs : List A) → Each P xs → Each P (filter p xs)
  each_filter P p [] each = tt
  each_filter P p (x ∷ xs) each = by (p x) (each_filter P p xs each.1)
    where
      by : (b : Bool) → Each P (filter p xs) → Each P (cond b (x ∷ filter p xs) (filter p xs))
      by true rest = (each.0, rest)
      by false rest = rest

  pub in_filter : (p : A → Bool) (xs : List A) (x : A) → IsIn (filter p xs) x → IsIn xs x × (p x ≡ true)
  in_filter p [] x there = elim there [ ]
  in_filter p (y ∷ ys) x there = by (p y) refl there (in_filter p ys x)
    where
      by : (b : Bool) → p y ≡ b → IsIn (cond b (y ∷ filter p ys) (filter p ys)) x → (IsIn (filter p ys) x → IsIn ys x × (p x ≡ true)) → IsIn (y ∷ ys) x × (p x ≡ true)
      by true is (inl same) rest = (inl same, ap p (sym same) ∙ is)
      by true is (inr there) rest =
          let found = rest there in
          (inr found.0, found.1)
      by false is there rest =
          let found = rest there in
          (inr found.0, found.1)

  pub filter_same : (p q : A → Bool) (xs : List A) → ((x : A) → p x ≡ q x) → filter p xs ≡ filter q xs
  filter_same p q [] same = refl
  filter_same p q (x ∷ xs) same =
      ap (λ (b : Bool). cond b (x ∷ filter p xs) (filter p xs)) (same x) ∙ ap (λ (ys : List A). cond (q x) (x ∷ ys) ys) (filter_same p q xs same)

  pub filter_twice : (p q : A → Bool) (xs : List A) → filter q (filter p xs) ≡ filter (λ x. p x && q x) xs
  filter_twice p q [] = refl
  filter_twice p q (x ∷ xs) = by (p x) (filter_twice p q xs)
    where
      by : (b : Bool) → filter q (filter p xs) ≡ filter (λ x. p x && q x) xs
          → filter q (cond b (x ∷ filter p xs) (filter p xs)) ≡ cond (b && q x) (x ∷ filter (λ x. p x && q x) xs) (filter (λ x. p x && q x) xs)
      by true rest = ap (λ (ys : List A). cond (q x) (x ∷ ys) ys) rest
      by false rest = rest

  pub any_filter : (p q : A → Bool) (xs : List A) → list_any q (filter p xs) ≡ list_any (λ x. p x && q x) xs
  any_filter p q [] = refl
  any_filter p q (x ∷ xs) = by (p x) (any_filter p q xs)
    where
      by : (b : Bool) → list_any q (filter p xs) ≡ list_any (λ x. p x && q x) xs → list_any q (cond b (x ∷ filter p xs) (filter p xs)) ≡ (b && q x) || list_any (λ x. p x && q x) xs
      by true rest = ap (λ (t : Bool). q x || t) rest
      by false rest = rest

  pub each_always : (P : A → Type 0) (xs : List A) → ((x : A) → P x) → Each P xs
  each_always P [] always = tt
  each_always P (x ∷ xs) always = (always x, each_always P xs always)

  pub length-filter_moved : (p : A → Bool) (xs ys : List A) → IsPermutation xs ys → length (filter p xs) ≡ length (filter p ys)
  length-filter_moved p xs ys moved = length-filter p xs ∙ sym (sum_by-IsPermutation (λ (x : A). cond (p x) 1 0) xs ys moved) ∙ sym (length-filter p ys)

-- two of those that pass are too far apart, however the list is ordered
fast_among : (Sighting → Bool) → List Sighting → List Sighting → Bool
fast_among p inner outer = list_any (λ first. p first && list_any (λ second. p second && (int_lt first.time second.time && is_too_fast first second)) inner) outer

any_fast_among : (p : Sighting → Bool) (xs : List Sighting) → any_fast (filter p xs) ≡ fast_among p xs xs
unfolding fast_among
any_fast_among p xs =
    any_filter p (λ first. list_any (λ second. int_lt first.time second.time && is_too_fast first second) (filter p xs)) xs
    ∙ any_same (λ first. p first && list_any (λ second. int_lt first.time second.time && is_too_fast first second) (filter p xs))
    (λ first. p first && list_any (λ second. p second && (int_lt first.time second.time && is_too_fast first second)) xs) xs
    (each_always _ xs (λ first. ap (λ (b : Bool). p first && b) (any_filter p (λ second. int_lt first.time second.time && is_too_fast first second) xs)))

pub any_fast_moved : (p : Sighting → Bool) (xs ys : List Sighting) → IsPermutation xs ys → any_fast (filter p xs) ≡ any_fast (filter p ys)
unfolding fast_among
any_fast_moved p xs ys moved =
    any_fast_among p xs
    ∙ list_any-IsPermutation (λ first. p first && list_any (λ second. p second && (int_lt first.time second.time && is_too_fast first second)) xs) xs ys moved
    ∙ any_same (λ first. p first && list_any (λ second. p second && (int_lt first.time second.time && is_too_fast first second)) xs)
    (λ first. p first && list_any (λ second. p second && (int_lt first.time second.time && is_too_fast first second)) ys) ys
    (each_always _ ys (λ first. ap (λ (b : Bool). p first && b) (list_any-IsPermutation (λ second. p second && (int_lt first.time second.time && is_too_fast first second)) xs ys moved)))
    ∙ sym (any_fast_among p ys)

-- each is earlier than those before it in the list
abbrev pub IsDescending : List Sighting → Type 0
IsDescending [] = Unit {0}
IsDescending (s ∷ earlier) = Each (λ e. int_lt e.time s.time ≡ true) earlier × IsDescending earlier
