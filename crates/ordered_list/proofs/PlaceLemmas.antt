-- The place of a key in a list that is in order, and what stands there.
use Rattle.std.proofs.Common.{◌≡◌, ℕ, ◌+◌, ◌-◌, ◌<◌, zero, suc, cond, List, [], ◌∷◌, length, get_or, set, Some, None, Result, Ok, Err, refl, ap, sym, ◌∙◌, inl, inr, true, false, Bool, true≢false, arith}
use Rattle.std.specs.Prelude.{IfOk, IfErr}
use Rattle.std.specs.Bool.{OnTrue}
use Rattle.std.specs.Cmp.{IsTotalOrder}
use Rattle.std.specs.List.{insert, remove}
use Rattle.std.specs.List.Sorted.{IsSortedBy, IsSearchInRange, IsBinarySearchResult}
use Rattle.std.specs.declared.cmp.Ordering.{Ordering}
use Rattle.std.specs.declared.cmp.Ordering.TheVariants.{Less, Equal, Greater}
use Rattle.std.specs.Ordering.{is_lt, is_eq, ordering_reverse, match_ordering}
use Rattle.std.proofs.lemmas.Bool.{cases_eq}
use Rattle.std.proofs.lemmas.Cmp.{alike_right}
use Rattle.std.proofs.lemmas.List.{get_or_default}
use Rattle.std.proofs.lemmas.List.Elements.{All-from_recursion}
use Rattle.std.proofs.lemmas.List.Sorted.{searchable_from_sorted}
use Rattle.ordered_list.specs.Orders.{IsStrictlySorted, found, inserted, removed, FoundAt, BelongsAt}

module _ {T : Type 0} {cmp : T → T → Ordering} (total : IsTotalOrder cmp) where
  pub above_from_below : (x y : T) → cmp x y ≡ Less → cmp y x ≡ Greater
  above_from_below x y below = total.antisymm y x ∙ ap ordering_reverse below

  -- an earlier item is below a later one
  pub sorted_before : (xs : List T) → IsStrictlySorted cmp xs → (i j : ℕ) (d : T) → i < j → j < length xs → cmp (get_or xs i d) (get_or xs j d) ≡ Less
  sorted_before [] sorted i j d less within = absurd (omega arith)
  sorted_before (x ∷ xs) sorted i zero d less within = absurd (omega arith)
  sorted_before (x ∷ xs) sorted zero (suc j) d less within = All-from_recursion (λ (y : T). cmp x y ≡ Less) xs sorted.0 j d (omega arith)
  sorted_before (x ∷ xs) sorted (suc i) (suc j) d less within = sorted_before xs sorted.1 i j d (omega arith) (omega arith)

  sorted_plain : (xs : List T) → IsStrictlySorted cmp xs → IsSortedBy (λ a b. is_lt (cmp a b)) xs
  sorted_plain xs sorted k d low within = ap is_lt (above_from_below (get_or xs k d) (get_or xs (k + 1) d) (sorted_before xs sorted k (k + 1) d (omega arith) within))

  -- what a search by halving finds
  pub place_found : (xs : List T) (key : T) (r : Result ℕ ℕ) → IsStrictlySorted cmp xs → IsSearchInRange r (length xs) → IsBinarySearchResult (λ y. cmp y key) xs r
      → record { at : IfOk r (FoundAt cmp key xs); gap : IfErr r (BelongsAt cmp key xs) }
  place_found xs key (Ok at) sorted within equal = record {
    at = record {
      within = within;
      below = λ k d less. sym (alike_right total (get_or xs at d) key (get_or xs k d) (equal d)) ∙ sorted_before xs sorted k at d less within;
      here = equal;
    };
    gap = tt;
  }
  place_found xs key (Err at) sorted within parted =
      let parts = parted (searchable_from_sorted total (λ (x : T). x) xs key (sorted_plain xs sorted)) in
      record {
        at = tt;
        gap = record { within = within; below = λ k d less. parts.0 k d (omega arith) less; above = λ k d low high. parts.1 k d low high };
      }

  -- a key above the last item belongs at the end
  pub past_last : (xs : List T) (key : T) → IsStrictlySorted cmp xs → ((d : T) → cmp (get_or xs (length xs - 1) d) key ≡ Less) → BelongsAt cmp key xs (length xs)
  past_last xs key sorted last = record {
    within = omega arith;
    below = λ k d less. elim (cases_eq k (length xs - 1)) [
      | inl is ↦ ap (λ (n : ℕ). cmp (get_or xs n d) key) is ∙ last d
      | inr differs ↦ total.trans (get_or xs k d) (get_or xs (length xs - 1) d) key (sorted_before xs sorted k (length xs - 1) d (omega (arith, less, differs)) (omega (arith, less))) (last d)
    ];
    above = λ k d low high. absurd (omega (arith, low, high));
  }

  -- the last item was looked at, where there is one
  pub past_told : (xs : List T) (key last : T) (o : Ordering) (past : Bool) → IsStrictlySorted cmp xs → (length xs ≡ 0 → ⊥) → last ≡ get_or xs (length xs - 1) last → o ≡ cmp last key → past ≡ is_lt o
      → OnTrue past (BelongsAt cmp key xs (length xs))
  past_told xs key last o false sorted some is told tested = tt
  past_told xs key last Less true sorted some is told tested =
      past_last xs key sorted (λ d. ap (λ (x : T). cmp x key) (get_or_default xs (length xs - 1) d last (omega (arith, some)) ∙ sym is) ∙ sym told)
  past_told xs key last Equal true sorted some is told tested = absurd (true≢false tested)
  past_told xs key last Greater true sorted some is told tested = absurd (true≢false tested)

-- ---- what stands at the place

module _ {T : Type 0} {cmp : T → T → Ordering} where
  pub found_tail : (key x : T) (xs : List T) (place : ℕ) → FoundAt cmp key (x ∷ xs) (suc place) → FoundAt cmp key xs place
  found_tail key x xs place at = record { within = omega (arith, at.within); below = λ k d less. at.below (suc k) d (omega arith); here = λ d. at.here d }

  pub gap_tail : (key x : T) (xs : List T) (place : ℕ) → BelongsAt cmp key (x ∷ xs) (suc place) → BelongsAt cmp key xs place
  gap_tail key x xs place gap = record {
    within = omega (arith, gap.within);
    below = λ k d less. gap.below (suc k) d (omega arith);
    above = λ k d low high. gap.above (suc k) d (omega arith) (omega arith);
  }

  pub found_there : (key : T) (xs : List T) (place : ℕ) (d : T) → FoundAt cmp key xs place → found cmp key xs ≡ Some (get_or xs place d)
  found_there key [] place d at = absurd (omega (arith, at.within))
  found_there key (x ∷ xs) zero d at = ap (λ (o : Ordering). cond (is_eq o) (Some x) (found cmp key xs)) (at.here d)
  found_there key (x ∷ xs) (suc place) d at =
      ap (λ (o : Ordering). cond (is_eq o) (Some x) (found cmp key xs)) (at.below 0 d (omega arith)) ∙ found_there key xs place d (found_tail key x xs place at)

  pub found_nowhere : (key : T) (xs : List T) (place : ℕ) → BelongsAt cmp key xs place → found cmp key xs ≡ None
  found_nowhere key [] place gap = refl
  found_nowhere key (x ∷ xs) zero gap =
      ap (λ (o : Ordering). cond (is_eq o) (Some x) (found cmp key xs)) (gap.above 0 x (omega arith) (omega arith))
      ∙ found_nowhere key xs zero (record { within = omega arith; below = λ k d less. absurd (omega arith); above = λ k d low high. gap.above (suc k) d (omega arith) (omega arith) })
  found_nowhere key (x ∷ xs) (suc place) gap =
      ap (λ (o : Ordering). cond (is_eq o) (Some x) (found cmp key xs)) (gap.below 0 x (omega arith)) ∙ found_nowhere key xs place (gap_tail key x xs place gap)

  pub set_there : (key : T) (xs : List T) (place : ℕ) → FoundAt cmp key xs place → set xs place key ≡ inserted cmp key xs
  set_there key [] place at = absurd (omega (arith, at.within))
  set_there key (x ∷ xs) zero at = sym (ap (λ (o : Ordering). match_ordering o (x ∷ inserted cmp key xs) (key ∷ xs) (key ∷ x ∷ xs)) (at.here x))
  set_there key (x ∷ xs) (suc place) at =
      ap (λ (ys : List T). x ∷ ys) (set_there key xs place (found_tail key x xs place at))
      ∙ sym (ap (λ (o : Ordering). match_ordering o (x ∷ inserted cmp key xs) (key ∷ xs) (key ∷ x ∷ xs)) (at.below 0 x (omega arith)))

  pub insert_there : (key : T) (xs : List T) (place : ℕ) → BelongsAt cmp key xs place → insert xs place key ≡ inserted cmp key xs
  insert_there key [] zero gap = refl
  insert_there key [] (suc place) gap = absurd (omega (arith, gap.within))
  insert_there key (x ∷ xs) zero gap = sym (ap (λ (o : Ordering). match_ordering o (x ∷ inserted cmp key xs) (key ∷ xs) (key ∷ x ∷ xs)) (gap.above 0 x (omega arith) (omega arith)))
  insert_there key (x ∷ xs) (suc place) gap =
      ap (λ (ys : List T). x ∷ ys) (insert_there key xs place (gap_tail key x xs place gap))
      ∙ sym (ap (λ (o : Ordering). match_ordering o (x ∷ inserted cmp key xs) (key ∷ xs) (key ∷ x ∷ xs)) (gap.below 0 x (omega arith)))

  pub remove_there : (key : T) (xs : List T) (place : ℕ) → FoundAt cmp key xs place → remove xs place ≡ removed cmp key xs
  remove_there key [] place at = absurd (omega (arith, at.within))
  remove_there key (x ∷ xs) zero at = sym (ap (λ (o : Ordering). cond (is_eq o) xs (x ∷ removed cmp key xs)) (at.here x))
  remove_there key (x ∷ xs) (suc place) at =
      ap (λ (ys : List T). x ∷ ys) (remove_there key xs place (found_tail key x xs place at))
      ∙ sym (ap (λ (o : Ordering). cond (is_eq o) xs (x ∷ removed cmp key xs)) (at.below 0 x (omega arith)))
