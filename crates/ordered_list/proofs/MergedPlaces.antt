-- The item at a place of merged lists.
use Rattle.std.proofs.Common.{◌≡◌, ℕ, ◌+◌, ◌-◌, ◌<◌, ◌≤◌, List, [], ◌∷◌, ◌++◌, length, get_or, take, drop, Some, None, false, zero, suc, refl, ap, sym, subst, ◌∙◌, inl, inr, arith}
use Rattle.std.specs.Prelude.{slice_get, ◌≢◌}
use Rattle.std.specs.Cmp.{IsTotalOrder}
use Rattle.std.specs.List.{AllByRecursion}
use Rattle.std.specs.declared.cmp.Ordering.{Ordering}
use Rattle.std.specs.declared.cmp.Ordering.TheVariants.{Less, Equal, Greater}
use Rattle.std.specs.Ordering.{match_ordering, is_eq, ordering_reverse}
use Rattle.std.proofs.lemmas.Bool.{cases_lt, cases_eq, false≢true}
use Rattle.std.proofs.lemmas.List.{length-take-le, take-append-drop, drop_more, get_or-take, get_or-drop, get_or_default, length-take, length-drop}
use Rattle.std.proofs.lemmas.List.Elements.{All-from_recursion, recursion_from_All}
use Rattle.ordered_list.specs.Orders.{ties, IsStrictlySorted, found, inserted, merged, AreApart, BelongsAt}
use Rattle.ordered_list.specs.Contents.{IsPair}
use Rattle.ordered_list.specs.Places.{below, IsPassed}
use Rattle.ordered_list.proofs.PlaceLemmas.{sorted_before, above_from_below}
use Rattle.ordered_list.proofs.InsertLemmas.{inserted_by, below_from_above}
use Rattle.ordered_list.proofs.MergeLemmas.{all-merged, all_weaker, none_ties, ties_none, sorted-merged, length-merged}
use Rattle.ordered_list.proofs.RemoveLemmas.{inserted_first}
use Rattle.ordered_list.proofs.MergeSteps.{all-take, sorted-take, found-take}

module _ {T : Type 0} (cmp : T → T → Ordering) where
  -- an item above the first part goes into the second
  inserted_right : (item : T) (xs ys : List T) → AllByRecursion (λ x. cmp x item ≡ Less) xs → inserted cmp item (xs ++ ys) ≡ xs ++ inserted cmp item ys
  inserted_right item [] ys less = refl
  inserted_right item (x ∷ xs) ys less = inserted_by cmp item x (xs ++ ys) Less less.0 ∙ ap (λ (zs : List T). x ∷ zs) (inserted_right item xs ys less.1)

  -- where a key belongs is as far as the items are below it
  pub belongs_below : (key : T) (xs : List T) (place : ℕ) → BelongsAt cmp key xs place → below cmp key xs ≡ place
  belongs_below key [] place gap = omega (arith, gap.within)
  belongs_below key (x ∷ xs) zero gap = ap (λ (o : Ordering). match_ordering o (below cmp key xs + 1) 0 0) (gap.above 0 x (omega arith) (omega arith))
  belongs_below key (x ∷ xs) (suc place) gap =
      let rest = belongs_below key xs place (record {
        within = omega (arith, gap.within);
        below = λ k d less. gap.below (suc k) d (omega arith);
        above = λ k d low high. gap.above (suc k) d (omega arith) (omega arith);
      }) in
      ap (λ (o : Ordering). match_ordering o (below cmp key xs + 1) 0 0) (gap.below 0 x (omega arith)) ∙ omega (arith, rest)

module _ {T : Type 0} {cmp : T → T → Ordering} (total : IsTotalOrder cmp) where
  -- an item below the second part goes into the first
  inserted_left : (item : T) (xs ys : List T) → AllByRecursion (λ y. cmp item y ≡ Less) ys → inserted cmp item (xs ++ ys) ≡ inserted cmp item xs ++ ys
  inserted_left item [] ys less = inserted_first total item ys less
  inserted_left item (x ∷ xs) ys less = by (cmp x item) refl (inserted_left item xs ys less)
    where
      by : (o : Ordering) → cmp x item ≡ o → inserted cmp item (xs ++ ys) ≡ inserted cmp item xs ++ ys → inserted cmp item (x ∷ (xs ++ ys)) ≡ inserted cmp item (x ∷ xs) ++ ys
      by Less is rest = inserted_by cmp item x (xs ++ ys) Less is ∙ ap (λ (zs : List T). x ∷ zs) rest ∙ ap (λ (zs : List T). zs ++ ys) (sym (inserted_by cmp item x xs Less is))
      by Equal is rest = inserted_by cmp item x (xs ++ ys) Equal is ∙ ap (λ (zs : List T). zs ++ ys) (sym (inserted_by cmp item x xs Equal is))
      by Greater is rest = inserted_by cmp item x (xs ++ ys) Greater is ∙ ap (λ (zs : List T). zs ++ ys) (sym (inserted_by cmp item x xs Greater is))

  -- merged lists that are cut at one item
  merged_right : (ps qs ds : List T) → AllByRecursion (λ d. AllByRecursion (λ a. cmp a d ≡ Less) ps) ds → merged cmp (ps ++ qs) ds ≡ ps ++ merged cmp qs ds
  merged_right ps qs [] above = refl
  merged_right ps qs (d ∷ ds) above = ap (inserted cmp d) (merged_right ps qs ds above.1) ∙ inserted_right cmp d ps (merged cmp qs ds) above.0

  merged_cut : (ps qs cs ds : List T) → AllByRecursion (λ d. AllByRecursion (λ a. cmp a d ≡ Less) ps) ds → AllByRecursion (λ c. AllByRecursion (λ b. cmp c b ≡ Less) qs) cs
      → AllByRecursion (λ c. AllByRecursion (λ d. cmp c d ≡ Less) ds) cs → merged cmp (ps ++ qs) (cs ++ ds) ≡ merged cmp ps cs ++ merged cmp qs ds
  merged_cut ps qs [] ds above lower low = merged_right ps qs ds above
  merged_cut ps qs (c ∷ cs) ds above lower low =
      ap (inserted cmp c) (merged_cut ps qs cs ds above lower.1 low.1) ∙ inserted_left c (merged cmp ps cs) (merged cmp qs ds) (all-merged cmp (λ y. cmp c y ≡ Less) qs ds lower.0 low.0)

  merged_first : (x : T) (xs ys : List T) → AllByRecursion (λ y. cmp x y ≡ Less) ys → merged cmp (x ∷ xs) ys ≡ x ∷ merged cmp xs ys
  merged_first x xs [] less = refl
  merged_first x xs (y ∷ ys) less = ap (inserted cmp y) (merged_first x xs ys less.1) ∙ inserted_by cmp y x (merged cmp xs ys) Less less.0

  -- the higher the key, the more items are below it
  pub below_more : (a b : T) (xs : List T) → cmp a b ≡ Less → below cmp a xs ≤ below cmp b xs
  below_more a b [] less = omega arith
  below_more a b (x ∷ xs) less = by (cmp x a) refl (below_more a b xs less)
    where
      by : (o : Ordering) → cmp x a ≡ o → below cmp a xs ≤ below cmp b xs → below cmp a (x ∷ xs) ≤ below cmp b (x ∷ xs)
      by Less is rest =
          let left = ap (λ (o : Ordering). match_ordering o (below cmp a xs + 1) 0 0) is in
          let right = ap (λ (o : Ordering). match_ordering o (below cmp b xs + 1) 0 0) (total.trans x a b is less) in
          omega (arith, left, right, rest)
      by Equal is rest = let left = ap (λ (o : Ordering). match_ordering o (below cmp a xs + 1) 0 0) is in omega (arith, left)
      by Greater is rest = let left = ap (λ (o : Ordering). match_ordering o (below cmp a xs + 1) 0 0) is in omega (arith, left)

  -- a key that isn't found belongs where the items below it end
  pub belongs : (key : T) (xs : List T) → IsStrictlySorted cmp xs → found cmp key xs ≡ None → BelongsAt cmp key xs (below cmp key xs)
  belongs key [] sorted none = record { within = omega arith; below = λ k d less. absurd (omega arith); above = λ k d low high. absurd (omega arith) }
  belongs key (x ∷ xs) sorted none = by (cmp x key) refl (belongs key xs sorted.1)
    where
      apart : AllByRecursion (λ y. ties cmp key y ≡ false) (x ∷ xs)
      apart = none_ties cmp key (x ∷ xs) none

      by : (o : Ordering) → cmp x key ≡ o → (found cmp key xs ≡ None → BelongsAt cmp key xs (below cmp key xs)) → BelongsAt cmp key (x ∷ xs) (match_ordering (cmp x key) (below cmp key xs + 1) 0 0)
      by Less is rest =
          let gap = rest (ties_none cmp key xs apart.1) in
          subst (λ (o : Ordering). BelongsAt cmp key (x ∷ xs) (match_ordering o (below cmp key xs + 1) 0 0)) (sym is)
          record {
            within = omega (arith, gap.within);
            below = lower gap;
            above = higher gap;
          }
        where
          lower : BelongsAt cmp key xs (below cmp key xs) → (k : ℕ) (d : T) → k < below cmp key xs + 1 → cmp (get_or (x ∷ xs) k d) key ≡ Less
          lower gap zero d less = is
          lower gap (suc k) d less = gap.below k d (omega arith)

          higher : BelongsAt cmp key xs (below cmp key xs) → (k : ℕ) (d : T) → below cmp key xs + 1 ≤ k → k < length (x ∷ xs) → cmp (get_or (x ∷ xs) k d) key ≡ Greater
          higher gap zero d low high = absurd (omega arith)
          higher gap (suc k) d low high = gap.above k d (omega arith) (omega arith)
      by Equal is rest = absurd (false≢true (sym apart.0 ∙ ap is_eq is))
      by Greater is rest =
          subst (λ (o : Ordering). BelongsAt cmp key (x ∷ xs) (match_ordering o (below cmp key xs + 1) 0 0)) (sym is)
          record { within = omega arith; below = λ k d less. absurd (omega arith); above = higher }
        where
          first : cmp key x ≡ Less
          first = total.antisymm key x ∙ ap ordering_reverse is

          higher : (k : ℕ) (d : T) → 0 ≤ k → k < length (x ∷ xs) → cmp (get_or (x ∷ xs) k d) key ≡ Greater
          higher zero d low high = is
          higher (suc k) d low high = above_from_below total key (get_or xs k d) (total.trans key x (get_or xs k d) first (All-from_recursion (λ y. cmp x y ≡ Less) xs sorted.0 k d (omega arith)))

  -- ---- a cut before one item

  module _ (x : T) (ps qs cs ds : List T) (ps_below : AllByRecursion (λ a. cmp a x ≡ Less) ps) (cs_below : AllByRecursion (λ c. cmp c x ≡ Less) cs)
      (qs_from : AllByRecursion (λ b. (a : T) → cmp a x ≡ Less → cmp a b ≡ Less) qs) (ds_from : AllByRecursion (λ d. (a : T) → cmp a x ≡ Less → cmp a d ≡ Less) ds) where
    pub cut_at : merged cmp (ps ++ qs) (cs ++ ds) ≡ merged cmp ps cs ++ merged cmp qs ds
    cut_at = merged_cut ps qs cs ds
        (all_weaker _ (λ d. AllByRecursion (λ a. cmp a d ≡ Less) ps) (λ d from. all_weaker (λ a. cmp a x ≡ Less) (λ a. cmp a d ≡ Less) (λ a low. from a low) ps ps_below) ds ds_from)
        (all_weaker (λ c. cmp c x ≡ Less) (λ c. AllByRecursion (λ b. cmp c b ≡ Less) qs) (λ c low. all_weaker _ (λ b. cmp c b ≡ Less) (λ b from. from c low) qs qs_from) cs cs_below)
        (all_weaker (λ c. cmp c x ≡ Less) (λ c. AllByRecursion (λ d. cmp c d ≡ Less) ds) (λ c low. all_weaker _ (λ d. cmp c d ≡ Less) (λ d from. from c low) ds ds_from) cs cs_below)

  -- ---- where a key belongs in merged lists

  pub front_of : (key : T) (xs : List T) (place : ℕ) → BelongsAt cmp key xs place → AllByRecursion (λ a. cmp a key ≡ Less) (take place xs)
  front_of key xs place gap = recursion_from_All (λ a. cmp a key ≡ Less) (take place xs) (λ k d less.
      subst (λ a. cmp a key ≡ Less) (sym (get_or-take place xs k d (omega (arith, length-take place xs)))) (gap.below k d (omega (arith, length-take place xs))))

  pub back_of : (key : T) (xs : List T) (place : ℕ) → BelongsAt cmp key xs place → AllByRecursion (λ b. cmp key b ≡ Less) (drop place xs)
  back_of key xs place gap = recursion_from_All (λ b. cmp key b ≡ Less) (drop place xs) (λ k d less.
      subst (λ b. cmp key b ≡ Less) (sym (get_or-drop place xs k d)) (below_from_above total _ key (gap.above (place + k) d (omega arith) (omega (arith, length-drop place xs)))))

  below_parted : (key : T) (xs ys : List T) → AllByRecursion (λ a. cmp a key ≡ Less) xs → AllByRecursion (λ b. cmp key b ≡ Less) ys → below cmp key (xs ++ ys) ≡ length xs
  below_parted key [] [] low high = refl
  below_parted key [] (y ∷ ys) low high = ap (λ (o : Ordering). match_ordering o (below cmp key ys + 1) 0 0) (above_from_below total key y high.0)
  below_parted key (x ∷ xs) ys low high =
      ap (λ (o : Ordering). match_ordering o (below cmp key (xs ++ ys) + 1) 0 0) low.0 ∙ omega (arith, below_parted key xs ys low.1 high)

  pub belongs_merged : (key : T) (xs ys : List T) (place other : ℕ) → IsPair cmp xs ys → found cmp key (merged cmp xs ys) ≡ None → BelongsAt cmp key xs place → BelongsAt cmp key ys other
      → BelongsAt cmp key (merged cmp xs ys) (place + other)
  belongs_merged key xs ys place other pair none gap gap_ys =
      subst (BelongsAt cmp key (merged cmp xs ys)) stands (belongs key (merged cmp xs ys) (sorted-merged total xs ys pair.settled_sorted) none)
    where
      from_key : (zs : List T) → AllByRecursion (λ b. cmp key b ≡ Less) zs → AllByRecursion (λ b. (a : T) → cmp a key ≡ Less → cmp a b ≡ Less) zs
      from_key zs above = all_weaker (λ b. cmp key b ≡ Less) (λ b. (a : T) → cmp a key ≡ Less → cmp a b ≡ Less) (λ b high a low. total.trans a key b low high) zs above

      parted : merged cmp xs ys ≡ merged cmp (take place xs) (take other ys) ++ merged cmp (drop place xs) (drop other ys)
      parted =
          ap (λ (zs : List T). merged cmp zs ys) (sym (take-append-drop place xs)) ∙ ap (merged cmp (take place xs ++ drop place xs)) (sym (take-append-drop other ys))
          ∙ cut_at key (take place xs) (drop place xs) (take other ys) (drop other ys) (front_of key xs place gap) (front_of key ys other gap_ys)
          (from_key (drop place xs) (back_of key xs place gap)) (from_key (drop other ys) (back_of key ys other gap_ys))

      apart : AreApart cmp (take place xs) (take other ys)
      apart = all-take (λ y. found cmp y (take place xs) ≡ None) other ys
          (all_weaker (λ y. found cmp y xs ≡ None) (λ y. found cmp y (take place xs) ≡ None) (λ y none. found-take cmp y place xs none) ys pair.apart)

      stands : below cmp key (merged cmp xs ys) ≡ place + other
      stands =
          ap (below cmp key) parted
          ∙ below_parted key (merged cmp (take place xs) (take other ys)) (merged cmp (drop place xs) (drop other ys))
          (all-merged cmp (λ a. cmp a key ≡ Less) (take place xs) (take other ys) (front_of key xs place gap) (front_of key ys other gap_ys))
          (all-merged cmp (λ b. cmp key b ≡ Less) (drop place xs) (drop other ys) (back_of key xs place gap) (back_of key ys other gap_ys))
          ∙ length-merged total (take place xs) (take other ys) (sorted-take cmp other ys pair.newest_sorted) apart
          ∙ omega (arith, length-take-le place xs gap.within, length-take-le other ys gap_ys.within)

slice_get_at : {T : Type 0} (xs : List T) (y : T) (ys : List T) (n : ℕ) → length xs ≡ n → slice_get (xs ++ y ∷ ys) n ≡ Some y
slice_get_at [] y ys zero same = refl
slice_get_at [] y ys (suc n) same = absurd (omega arith)
slice_get_at (x ∷ xs) y ys zero same = absurd (omega arith)
slice_get_at (x ∷ xs) y ys (suc n) same = slice_get_at xs y ys n (omega arith)

slice_get_past : {T : Type 0} (xs : List T) (n : ℕ) → length xs ≤ n → slice_get xs n ≡ None
slice_get_past [] n past = refl
slice_get_past (x ∷ xs) zero past = absurd (omega arith)
slice_get_past (x ∷ xs) (suc n) past = slice_get_past xs n (omega arith)

slice_get_there : {T : Type 0} (xs : List T) (n : ℕ) (d : T) → n < length xs → slice_get xs n ≡ Some (get_or xs n d)
slice_get_there [] n d within = absurd (omega arith)
slice_get_there (x ∷ xs) zero d within = refl
slice_get_there (x ∷ xs) (suc n) d within = slice_get_there xs n d (omega arith)

-- a list that isn't empty has an item
some_item : {T : Type 0} (xs : List T) → 0 < length xs → T
some_item [] some = absurd (omega arith)
some_item (x ∷ xs) some = x

module _ {T : Type 0} {cmp : T → T → Ordering} (total : IsTotalOrder cmp) (settled newest : List T) (pair : IsPair cmp settled newest) where
  -- where one of the newest belongs among the others
  gap_of : (j : ℕ) (d : T) → j < length newest → BelongsAt cmp (get_or newest j d) settled (below cmp (get_or newest j d) settled)
  gap_of j d within = belongs total (get_or newest j d) settled pair.settled_sorted (All-from_recursion (λ other. found cmp other settled ≡ None) newest pair.apart j d within)

  front_below : (xs : List T) → IsStrictlySorted cmp xs → (i : ℕ) (d : T) → i < length xs → AllByRecursion (λ x. cmp x (get_or xs i d) ≡ Less) (take i xs)
  front_below xs up i d within = recursion_from_All (λ x. cmp x (get_or xs i d) ≡ Less) (take i xs) (λ k e less.
      subst (λ x. cmp x (get_or xs i d) ≡ Less) (get_or_default xs k d e (omega (arith, length-take i xs)) ∙ sym (get_or-take i xs k e (omega (arith, length-take i xs))))
      (sorted_before total xs up k i d (omega (arith, length-take i xs)) within))

  rest_from : (xs : List T) → IsStrictlySorted cmp xs → (i : ℕ) (d : T) → i < length xs → AllByRecursion (λ y. (a : T) → cmp a (get_or xs i d) ≡ Less → cmp a y ≡ Less) (drop i xs)
  rest_from xs up i d within = subst (AllByRecursion (λ y. (a : T) → cmp a (get_or xs i d) ≡ Less → cmp a y ≡ Less)) (sym (drop_more xs i d within)) (
    (λ a low. low),
    recursion_from_All (λ y. (a : T) → cmp a (get_or xs i d) ≡ Less → cmp a y ≡ Less) (drop (i + 1) xs) (λ k e high a low.
        let inside : i + 1 + k < length xs = omega (arith, length-drop (i + 1) xs) in
        subst (λ y. cmp a y ≡ Less) (get_or_default xs (i + 1 + k) d e inside ∙ sym (get_or-drop (i + 1) xs k e))
        (total.trans a (get_or xs i d) (get_or xs (i + 1 + k) d) low (sorted_before total xs up i (i + 1 + k) d (omega arith) inside))),
  )

  later_all : (xs : List T) → IsStrictlySorted cmp xs → (i : ℕ) (x : T) → i < length xs → x ≡ get_or xs i x → AllByRecursion (λ y. cmp x y ≡ Less) (drop (i + 1) xs)
  later_all xs up i x within is = recursion_from_All (λ y. cmp x y ≡ Less) (drop (i + 1) xs) (λ k d less.
      let inside : i + 1 + k < length xs = omega (arith, length-drop (i + 1) xs) in
      subst (λ y. cmp x y ≡ Less) (get_or_default xs (i + 1 + k) x d inside ∙ sym (get_or-drop (i + 1) xs k d))
      (subst (λ y. cmp y (get_or xs (i + 1 + k) x) ≡ Less) (sym is) (sorted_before total xs up i (i + 1 + k) x (omega arith) inside)))

  -- ---- a search for a place

  stands_higher : (j k : ℕ) (d : T) → j < k → k < length newest → j + below cmp (get_or newest j d) settled ≤ k + below cmp (get_or newest k d) settled
  stands_higher j k d less within = omega (arith, less, below_more total (get_or newest j d) (get_or newest k d) settled (sorted_before total newest pair.newest_sorted j k d less within))

  module _ (place middle gap : ℕ) (item : T) (within : middle < length newest) (is : item ≡ get_or newest middle item) (at : BelongsAt cmp item settled gap) where
    stands : (d : T) → below cmp (get_or newest middle d) settled ≡ gap
    stands d = ap (λ (x : T). below cmp x settled) (sym (is ∙ get_or_default newest middle item d within)) ∙ belongs_below cmp item settled gap at

    pub before_middle : middle + gap < place → (j : ℕ) (d : T) → j < middle + 1 → j + below cmp (get_or newest j d) settled < place
    before_middle lower j d less = elim (cases_eq j middle) [
      | inl same ↦ subst (λ (k : ℕ). k + below cmp (get_or newest k d) settled < place) (sym same) (omega (arith, stands d, lower))
      | inr other ↦ omega (arith, stands d, lower, stands_higher j middle d (omega arith) within)
    ]

    pub after_middle : place ≤ middle + gap → (j : ℕ) (d : T) → middle ≤ j → j < length newest → place ≤ j + below cmp (get_or newest j d) settled
    after_middle upper j d from inside = elim (cases_eq j middle) [
      | inl same ↦ subst (λ (k : ℕ). place ≤ k + below cmp (get_or newest k d) settled) (sym same) (omega (arith, stands d, upper))
      | inr other ↦ omega (arith, stands d, upper, stands_higher middle j d (omega arith) inside)
    ]

  -- no more are passed than the place says
  pub passed_low : (place count : ℕ) → IsPassed cmp settled newest place count → count ≤ place
  passed_low place count passed = elim (cases_lt 0 count) [
    | inl some ↦ by some (some_item newest (omega (arith, passed.within, some)))
    | inr none ↦ omega (arith, none)
  ]
    where
      by : 0 < count → T → count ≤ place
      by some d = omega (arith, some, passed.before (count - 1) d (omega (arith, some)))

  module _ (place count : ℕ) (passed : IsPassed cmp settled newest place count) where
    -- an item at the cut, and what follows it, in both lists
    cut_length : (i : ℕ) → i ≤ length settled → length (merged cmp (take i settled) (take count newest)) ≡ i + count
    cut_length i within =
        let front = length-take-le i settled within in
        let first = length-take-le count newest passed.within in
        length-merged total (take i settled) (take count newest) (sorted-take cmp count newest pair.newest_sorted) (apart-take i count) ∙ omega (arith, front, first)
      where
        apart-take : (i n : ℕ) → AreApart cmp (take i settled) (take n newest)
        apart-take i n = all-take (λ other. found cmp other (take i settled) ≡ None) n newest (all_weaker (λ other. found cmp other settled ≡ None) (λ other. found cmp other (take i settled) ≡ None) (λ other none. found-take cmp other i settled none) newest pair.apart)

    pub item_of_newest : (item : T) → count < length newest → item ≡ get_or newest count item → count + below cmp item settled ≡ place → slice_get (merged cmp settled newest) place ≡ Some item
    item_of_newest item within is at =
        ap (λ (xs : List T). slice_get xs place) cut ∙ ap (λ (ys : List T). slice_get (merged cmp (take i settled) (take count newest) ++ ys) place) head
        ∙ slice_get_at (merged cmp (take i settled) (take count newest)) item (merged cmp (drop i settled) (drop (count + 1) newest)) place (cut_length i low ∙ omega (arith, at))
      where
        i : ℕ
        i = below cmp item settled

        gap : BelongsAt cmp item settled (below cmp item settled)
        gap = subst (λ (x : T). BelongsAt cmp x settled (below cmp x settled)) (sym is) (gap_of count item within)

        low : below cmp item settled ≤ length settled
        low = gap.within

        settled_below : AllByRecursion (λ a. cmp a item ≡ Less) (take (below cmp item settled) settled)
        settled_below = front_of total item settled _ gap

        settled_above : AllByRecursion (λ b. cmp item b ≡ Less) (drop (below cmp item settled) settled)
        settled_above = back_of total item settled _ gap

        newest_below : AllByRecursion (λ c. cmp c item ≡ Less) (take count newest)
        newest_below = subst (λ (x : T). AllByRecursion (λ c. cmp c x ≡ Less) (take count newest)) (sym is) (front_below newest pair.newest_sorted count item within)

        newest_from : AllByRecursion (λ d. (a : T) → cmp a item ≡ Less → cmp a d ≡ Less) (drop count newest)
        newest_from = subst (λ (x : T). AllByRecursion (λ d. (a : T) → cmp a x ≡ Less → cmp a d ≡ Less) (drop count newest)) (sym is) (rest_from newest pair.newest_sorted count item within)

        newest_rest : drop count newest ≡ item ∷ drop (count + 1) newest
        newest_rest = drop_more newest count item within ∙ ap (λ (x : T). x ∷ drop (count + 1) newest) (sym is)

        after : AllByRecursion (λ d. cmp item d ≡ Less) (drop (count + 1) newest)
        after = later_all newest pair.newest_sorted count item within is

        cut : merged cmp settled newest ≡ merged cmp (take (below cmp item settled) settled) (take count newest) ++ merged cmp (drop (below cmp item settled) settled) (drop count newest)
        cut =
            ap (λ (xs : List T). merged cmp xs newest) (sym (take-append-drop (below cmp item settled) settled))
            ∙ ap (merged cmp (take (below cmp item settled) settled ++ drop (below cmp item settled) settled)) (sym (take-append-drop count newest))
            ∙ cut_at total item (take (below cmp item settled) settled) (drop (below cmp item settled) settled) (take count newest) (drop count newest) settled_below newest_below
            (all_weaker (λ b. cmp item b ≡ Less) (λ b. (a : T) → cmp a item ≡ Less → cmp a b ≡ Less) (λ b less a low. total.trans a item b low less) (drop (below cmp item settled) settled) settled_above) newest_from

        head : merged cmp (drop (below cmp item settled) settled) (drop count newest) ≡ item ∷ merged cmp (drop (below cmp item settled) settled) (drop (count + 1) newest)
        head =
            ap (merged cmp (drop (below cmp item settled) settled)) newest_rest
            ∙ inserted_first total item (merged cmp (drop (below cmp item settled) settled) (drop (count + 1) newest))
            (all-merged cmp (λ y. cmp item y ≡ Less) (drop (below cmp item settled) settled) (drop (count + 1) newest) settled_above after)

    pub other_item : (item : T) (gap : ℕ) → item ≡ get_or newest count item → below cmp item settled ≡ gap → count + gap ≢ place → (d : T) → count < length newest → count + below cmp (get_or newest count d) settled ≢ place
    other_item item gap is stands other d more same =
        let here = ap (λ (x : T). below cmp x settled) (is ∙ get_or_default newest count item d more) in
        other (omega (arith, here, stands, same))

    pub item_of_settled : (i : ℕ) → i + count ≡ place → ((d : T) → count < length newest → count + below cmp (get_or newest count d) settled ≢ place)
        → slice_get (merged cmp settled newest) place ≡ slice_get settled i
    item_of_settled i at other = elim (cases_lt i (length settled)) [ inl within ↦ inside within | inr past ↦ outside past ]
      where
        outside : length settled ≤ i → slice_get (merged cmp settled newest) place ≡ slice_get settled i
        outside past =
            slice_get_past (merged cmp settled newest) place (omega (arith, all_passed, length-merged total settled newest pair.newest_sorted pair.apart))
            ∙ sym (slice_get_past settled i past)
          where
            all_passed : length newest ≤ count
            all_passed = elim (cases_lt count (length newest)) [
              | inl more ↦ missed (some_item newest (omega (arith, more))) more
              | inr none ↦ none
            ]
              where
                missed : T → count < length newest → length newest ≤ count
                missed d more = omega (arith, (gap_of count d more).within, passed.after count d (omega arith) more, past, at, beyond d more)
                  where
                    beyond : (d : T) → (more : count < length newest) → place < count + below cmp (get_or newest count d) settled
                    beyond d more = elim (cases_lt place (count + below cmp (get_or newest count d) settled)) [
                      | inl less ↦ less
                      | inr high ↦ absurd (other d more (omega (arith, passed.after count d (omega arith) more)))
                    ]

        inside : i < length settled → slice_get (merged cmp settled newest) place ≡ slice_get settled i
        inside within = by (some_item settled (omega (arith, within)))
          where
            by : T → slice_get (merged cmp settled newest) place ≡ slice_get settled i
            by e =
                ap (λ (xs : List T). slice_get xs place) (cut e) ∙ ap (λ (ys : List T). slice_get (merged cmp (take i settled) (take count newest) ++ ys) place) (head e)
                ∙ slice_get_at (merged cmp (take i settled) (take count newest)) (get_or settled i e) (merged cmp (drop (i + 1) settled) (drop count newest)) place (cut_length i (omega arith) ∙ at)
                ∙ sym (slice_get_there settled i e within)
              where
                -- those of the newest that are passed are below it
                passed_below : (e : T) → AllByRecursion (λ c. cmp c (get_or settled i e) ≡ Less) (take count newest)
                passed_below e = recursion_from_All (λ c. cmp c (get_or settled i e) ≡ Less) (take count newest) (λ k d less.
                    let low : k < count = omega (arith, length-take count newest) in
                    let inner : k < length newest = omega (arith, length-take count newest) in
                    subst (λ c. cmp c (get_or settled i e) ≡ Less) (sym (get_or-take count newest k d low)) (one k d low inner))
                  where
                    last : (d : T) → 0 < count → cmp (get_or newest (count - 1) d) (get_or settled i e) ≡ Less
                    last d some =
                        let here = gap_of (count - 1) d (omega (arith, passed.within)) in
                        let before = passed.before (count - 1) d (omega arith) in
                        below_from_above total (get_or settled i e) (get_or newest (count - 1) d) (here.above i e (omega (arith, at, before)) within)

                    one : (k : ℕ) (d : T) → k < count → k < length newest → cmp (get_or newest k d) (get_or settled i e) ≡ Less
                    one k d low inner = elim (cases_eq k (count - 1)) [
                      | inl same ↦ ap (λ (n : ℕ). cmp (get_or newest n d) (get_or settled i e)) same ∙ last d (omega arith)
                      | inr differs ↦ total.trans (get_or newest k d) (get_or newest (count - 1) d) (get_or settled i e) (sorted_before total newest pair.newest_sorted k (count - 1) d (omega arith) (omega (arith, passed.within))) (last d (omega arith))
                    ]

                -- the others are above it
                others_above : (e : T) → AllByRecursion (λ d. cmp (get_or settled i e) d ≡ Less) (drop count newest)
                others_above e = recursion_from_All (λ d. cmp (get_or settled i e) d ≡ Less) (drop count newest) (λ k d less.
                    let inner : count + k < length newest = omega (arith, length-drop count newest) in
                    subst (λ x. cmp (get_or settled i e) x ≡ Less) (sym (get_or-drop count newest k d)) (one k d inner))
                  where
                    first : (d : T) → count < length newest → cmp (get_or settled i e) (get_or newest count d) ≡ Less
                    first d more =
                        let here = gap_of count d more in
                        here.below i e (high (passed.after count d (omega arith) more) (other d more))
                      where
                        high : place ≤ count + below cmp (get_or newest count d) settled → count + below cmp (get_or newest count d) settled ≢ place → i < below cmp (get_or newest count d) settled
                        high from differs = elim (cases_lt i (below cmp (get_or newest count d) settled)) [ inl less ↦ less | inr past ↦ absurd (differs (omega (arith, at, from, past))) ]

                    one : (k : ℕ) (d : T) → count + k < length newest → cmp (get_or settled i e) (get_or newest (count + k) d) ≡ Less
                    one zero d inner = ap (λ (n : ℕ). cmp (get_or settled i e) (get_or newest n d)) (omega arith) ∙ first d (omega arith)
                    one (suc k) d inner = total.trans (get_or settled i e) (get_or newest count d) (get_or newest (count + suc k) d) (first d (omega arith)) (sorted_before total newest pair.newest_sorted count (count + suc k) d (omega arith) inner)

                cut : (e : T) → merged cmp settled newest ≡ merged cmp (take i settled) (take count newest) ++ merged cmp (drop i settled) (drop count newest)
                cut e =
                    ap (λ (xs : List T). merged cmp xs newest) (sym (take-append-drop i settled)) ∙ ap (merged cmp (take i settled ++ drop i settled)) (sym (take-append-drop count newest))
                    ∙ cut_at total (get_or settled i e) (take i settled) (drop i settled) (take count newest) (drop count newest) (front_below settled pair.settled_sorted i e within) (passed_below e) (rest_from settled pair.settled_sorted i e within)
                    (all_weaker (λ d. cmp (get_or settled i e) d ≡ Less) (λ d. (a : T) → cmp a (get_or settled i e) ≡ Less → cmp a d ≡ Less) (λ d less a low. total.trans a (get_or settled i e) d low less) (drop count newest) (others_above e))

                head : (e : T) → merged cmp (drop i settled) (drop count newest) ≡ get_or settled i e ∷ merged cmp (drop (i + 1) settled) (drop count newest)
                head e =
                    ap (λ (xs : List T). merged cmp xs (drop count newest)) (drop_more settled i e within)
                    ∙ merged_first total (get_or settled i e) (drop (i + 1) settled) (drop count newest) (others_above e)
