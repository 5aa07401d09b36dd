-- The next item above a key, in one list and in two that are merged.
use Rattle.std.proofs.Common.{◌≡◌, ℕ, ◌+◌, zero, suc, true, false, Bool, cond, List, [], ◌∷◌, Option, Some, None, refl, ap, sym, subst, ◌∙◌, arith}
use Rattle.std.specs.Prelude.{IsSome, is_some, slice_get}
use Rattle.std.specs.Cmp.{IsTotalOrder}
use Rattle.std.specs.List.{AllByRecursion}
use Rattle.std.specs.declared.cmp.Ordering.{Ordering}
use Rattle.std.specs.declared.cmp.Ordering.TheVariants.{Less, Equal, Greater}
use Rattle.std.specs.Ordering.{is_eq, is_gt, is_lt}
use Rattle.std.proofs.lemmas.Bool.{false≢true}
use Rattle.std.proofs.lemmas.Cmp.{alike_right, tied_itself}
use Rattle.ordered_list.specs.Orders.{ties, IsStrictlySorted, found, merged, AreApart, FoundAt, BelongsAt, next_above, IsNext, IsNextAbove, lower_of}
use Rattle.ordered_list.proofs.PlaceLemmas.{above_from_below, found_tail, gap_tail}
use Rattle.ordered_list.proofs.InsertLemmas.{below_from_above}
use Rattle.ordered_list.proofs.MergeLemmas.{apart_found, found_newest, found_settled, tie_from_test}

-- ---- at a place

next_by : {T : Type 0} (cmp : T → T → Ordering) (key x : T) (xs : List T) (o : Ordering) → cmp x key ≡ o → next_above cmp key (x ∷ xs) ≡ cond (is_gt o) (Some x) (next_above cmp key xs)
next_by cmp key x xs o is = ap (λ (o : Ordering). cond (is_gt o) (Some x) (next_above cmp key xs)) is

pub gap_next : {T : Type 0} (cmp : T → T → Ordering) (key : T) (xs : List T) (place : ℕ) → BelongsAt cmp key xs place → slice_get xs place ≡ next_above cmp key xs
gap_next cmp key [] place gap = refl
gap_next cmp key (x ∷ xs) zero gap = sym (next_by cmp key x xs Greater (gap.above 0 x (omega arith) (omega arith)))
gap_next cmp key (x ∷ xs) (suc place) gap = gap_next cmp key xs place (gap_tail key x xs place gap) ∙ sym (next_by cmp key x xs Less (gap.below 0 x (omega arith)))

module _ {T : Type 0} {cmp : T → T → Ordering} (total : IsTotalOrder cmp) where
  pub found_next : (key : T) (xs : List T) (place : ℕ) → IsStrictlySorted cmp xs → FoundAt cmp key xs place → slice_get xs (place + 1) ≡ next_above cmp key xs
  found_next key [] place sorted at = refl
  found_next key (x ∷ xs) zero sorted at = behind xs sorted.0 ∙ sym (next_by cmp key x xs Equal (at.here x))
    where
      behind : (ys : List T) → AllByRecursion (λ y. cmp x y ≡ Less) ys → slice_get ys 0 ≡ next_above cmp key ys
      behind [] below = refl
      behind (y ∷ ys) below = sym (next_by cmp key y ys Greater (sym (alike_right total x key y (at.here x)) ∙ above_from_below total x y below.0))
  found_next key (x ∷ xs) (suc place) sorted at =
      let more : ◌≡◌ {A = ℕ} (suc place + 1) (suc (place + 1)) = omega arith in
      ap (slice_get (x ∷ xs)) more ∙ found_next key xs place sorted.1 (found_tail key x xs place at) ∙ sym (next_by cmp key x xs Less (at.below 0 x (omega arith)))

  -- ---- among items in order

  -- an item that is found after the first is above it
  behind_first : (x other : T) (xs : List T) → AllByRecursion (λ y. cmp x y ≡ Less) xs → IsSome (found cmp other xs) → cmp x other ≡ Less
  behind_first x other [] below there = absurd (false≢true there)
  behind_first x other (y ∷ ys) below there = by (ties cmp other y) refl there (behind_first x other ys below.1)
    where
      by : (b : Bool) → ties cmp other y ≡ b → IsSome (cond b (Some y) (found cmp other ys)) → (IsSome (found cmp other ys) → cmp x other ≡ Less) → cmp x other ≡ Less
      by true is there rest = sym (alike_right total y other x (tie_from_test (cmp y other) is)) ∙ below.0
      by false is there rest = rest there

  -- one that is found is the first, or is after it
  pub found_more : (x other : T) (xs : List T) → (b : Bool) → ties cmp other x ≡ b → found cmp other (x ∷ xs) ≡ cond b (Some x) (found cmp other xs)
  found_more x other xs b is = ap (λ (b : Bool). cond b (Some x) (found cmp other xs)) is

  first_next : (key x : T) (xs : List T) → AllByRecursion (λ y. cmp x y ≡ Less) xs → cmp x key ≡ Greater → IsNext cmp key (x ∷ xs) x
  first_next key x xs below is = record {
    there = found_more x x xs true (ap is_eq (tied_itself total x));
    above = is;
    least = λ other there past less. by other (ties cmp other x) refl there less;
  }
    where
      by : (other : T) (b : Bool) → ties cmp other x ≡ b → IsSome (cond b (Some x) (found cmp other xs)) → cmp other x ≡ Less → ⊥
      by other true tie there less = let back = above_from_below total other x less in false≢true (sym (ap is_eq back) ∙ tie)
      by other false tie there less = let back = above_from_below total other x less in let after = behind_first x other xs below there in cc

  later_next : (key x : T) (xs : List T) (r : Option T) → AllByRecursion (λ y. cmp x y ≡ Less) xs → ¬ (cmp x key ≡ Greater) → IsNextAbove cmp key xs r → IsNextAbove cmp key (x ∷ xs) r
  later_next key x xs None below low none = λ other there past. by other (ties cmp other x) refl there past
    where
      by : (other : T) (b : Bool) → ties cmp other x ≡ b → IsSome (cond b (Some x) (found cmp other xs)) → cmp other key ≡ Greater → ⊥
      by other true tie there past = low (total.congr x other key (tie_from_test (cmp x other) tie) ∙ past)
      by other false tie there past = none other there past
  later_next key x xs (Some item) below low next = record {
    there =
        let after : cmp x item ≡ Less = behind_first x item xs below (ap is_some next.there) in
        found_more x item xs false (ap is_eq after) ∙ next.there;
    above = next.above;
    least = λ other there past less. by other (ties cmp other x) refl there past less;
  }
    where
      by : (other : T) (b : Bool) → ties cmp other x ≡ b → IsSome (cond b (Some x) (found cmp other xs)) → cmp other key ≡ Greater → cmp other item ≡ Less → ⊥
      by other true tie there past less = low (total.congr x other key (tie_from_test (cmp x other) tie) ∙ past)
      by other false tie there past less = next.least other there past less

  pub next_is : (key : T) (xs : List T) → IsStrictlySorted cmp xs → IsNextAbove cmp key xs (next_above cmp key xs)
  next_is key [] sorted = λ other there past. false≢true there
  next_is key (x ∷ xs) sorted = by (cmp x key) refl (next_is key xs sorted.1)
    where
      by : (o : Ordering) → cmp x key ≡ o → IsNextAbove cmp key xs (next_above cmp key xs) → IsNextAbove cmp key (x ∷ xs) (next_above cmp key (x ∷ xs))
      by Greater is rest = subst (IsNextAbove cmp key (x ∷ xs)) (sym (next_by cmp key x xs Greater is)) (first_next key x xs sorted.0 is)
      by Equal is rest =
          subst (IsNextAbove cmp key (x ∷ xs)) (sym (next_by cmp key x xs Equal is)) (later_next key x xs (next_above cmp key xs) sorted.0 (λ past. let both = sym is ∙ past in cc) rest)
      by Less is rest =
          subst (IsNextAbove cmp key (x ∷ xs)) (sym (next_by cmp key x xs Less is)) (later_next key x xs (next_above cmp key xs) sorted.0 (λ past. let both = sym is ∙ past in cc) rest)

  -- ---- in merged lists

  -- what is below an item is below one that isn't below it
  below_too : (other one more : T) → cmp other one ≡ Less → ¬ (cmp more one ≡ Less) → cmp other more ≡ Less
  below_too other one more below high = by (cmp more one) refl
    where
      by : (o : Ordering) → cmp more one ≡ o → cmp other more ≡ Less
      by Less is = absurd (high is)
      by Equal is = alike_right total more one other is ∙ below
      by Greater is = total.trans other one more below (below_from_above total more one is)

  module _ (key : T) (xs ys : List T) (apart : AreApart cmp xs ys) where
    -- what is found in the merged list is found in one of the two
    either : {P : Type 0} (other : T) → IsSome (found cmp other (merged cmp xs ys)) → (IsSome (found cmp other xs) → P) → (IsSome (found cmp other ys) → P) → P
    either {P} other there in_xs in_ys = by (found cmp other ys) refl
      where
        by : (o : Option T) → found cmp other ys ≡ o → P
        by None is = in_xs (subst (λ (o : Option T). IsSome o) (found_settled total other xs ys is) there)
        by (Some y) is = in_ys (ap is_some is)

    there_settled : (x : T) → found cmp x xs ≡ Some x → found cmp x (merged cmp xs ys) ≡ Some x
    there_settled x is = by (found cmp x ys) refl
      where
        by : (o : Option T) → found cmp x ys ≡ o → found cmp x (merged cmp xs ys) ≡ Some x
        by None none = found_settled total x xs ys none ∙ is
        by (Some y) some = absurd (false≢true (sym (ap is_some (apart_found total x xs ys apart (ap is_some some))) ∙ ap is_some is))

    next_merged : (one other : Option T) → IsNextAbove cmp key xs one → IsNextAbove cmp key ys other → IsNextAbove cmp key (merged cmp xs ys) (lower_of cmp one other)
    next_merged None None none nothing = λ some there past. either some there (λ here. none some here past) (λ here. nothing some here past)
    next_merged None (Some y) none next = record {
      there = found_newest total y y xs ys next.there;
      above = next.above;
      least = λ some there past less. either some there (λ here. none some here past) (λ here. next.least some here past less);
    }
    next_merged (Some x) None next none = record {
      there = there_settled x next.there;
      above = next.above;
      least = λ some there past less. either some there (λ here. next.least some here past less) (λ here. none some here past);
    }
    next_merged (Some x) (Some y) first second = by (cmp x y) refl
      where
        high : ¬ (cmp x y ≡ Less) → IsNext cmp key (merged cmp xs ys) y
        high past_y = record {
          there = found_newest total y y xs ys second.there;
          above = second.above;
          least = λ some there past less. either some there (λ here. first.least some here past (below_too some y x less past_y)) (λ here. second.least some here past less);
        }

        low : cmp x y ≡ Less → IsNext cmp key (merged cmp xs ys) x
        low is = record {
          there = there_settled x first.there;
          above = first.above;
          least = λ some there past less. either some there (λ here. first.least some here past less)
              (λ here. second.least some here past (total.trans some x y less is));
        }

        by : (o : Ordering) → cmp x y ≡ o → IsNextAbove cmp key (merged cmp xs ys) (cond (is_lt (cmp x y)) (Some x) (Some y))
        by Less is = subst (IsNextAbove cmp key (merged cmp xs ys)) (sym (ap (λ (o : Ordering). cond (is_lt o) (Some x) (Some y)) is)) (low is)
        by Equal is = subst (IsNextAbove cmp key (merged cmp xs ys)) (sym (ap (λ (o : Ordering). cond (is_lt o) (Some x) (Some y)) is)) (high (λ less. let both = sym is ∙ less in cc))
        by Greater is = subst (IsNextAbove cmp key (merged cmp xs ys)) (sym (ap (λ (o : Ordering). cond (is_lt o) (Some x) (Some y)) is)) (high (λ less. let both = sym is ∙ less in cc))

    -- the lower of the next items of both lists, where these are known
    pub next_both : (one other lower : Option T) → lower ≡ lower_of cmp one other → IsNextAbove cmp key xs one → IsNextAbove cmp key ys other → IsNextAbove cmp key (merged cmp xs ys) lower
    next_both one other lower is first second = subst (IsNextAbove cmp key (merged cmp xs ys)) (sym is) (next_merged one other first second)
