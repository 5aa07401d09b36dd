-- Lists in order in which each key finds the same.
use Rattle.std.proofs.Common.{◌≡◌, true, false, Bool, cond, List, [], ◌∷◌, Some, None, refl, ap, sym, subst, ◌∙◌}
use Rattle.std.specs.Cmp.{IsTotalOrder}
use Rattle.std.specs.List.{AllByRecursion}
use Rattle.std.specs.declared.cmp.Ordering.{Ordering}
use Rattle.std.specs.declared.cmp.Ordering.TheVariants.{Less, Equal, Greater}
use Rattle.std.specs.Ordering.{is_eq}
use Rattle.std.proofs.lemmas.Option.{none-some, same_Some}
use Rattle.std.proofs.lemmas.Cmp.{tied_itself}
use Rattle.ordered_list.specs.Orders.{ties, IsStrictlySorted, found}
use Rattle.ordered_list.proofs.InsertLemmas.{below_from_above}
use Rattle.ordered_list.proofs.MergeLemmas.{all_weaker, below_none, found_alike, tie_from_test}

module _ {T : Type 0} {cmp : T → T → Ordering} (total : IsTotalOrder cmp) where
  found_by : (key x : T) (xs : List T) (b : Bool) → ties cmp key x ≡ b → found cmp key (x ∷ xs) ≡ cond b (Some x) (found cmp key xs)
  found_by key x xs b is = ap (λ (b : Bool). cond b (Some x) (found cmp key xs)) is

  found_first : (x : T) (xs : List T) → found cmp x (x ∷ xs) ≡ Some x
  found_first x xs = found_by x x xs true (ap is_eq (tied_itself total x))

  -- what is below the first item isn't found
  below_first : (key x : T) (xs : List T) → cmp key x ≡ Less → AllByRecursion (λ y. cmp x y ≡ Less) xs → found cmp key (x ∷ xs) ≡ None
  below_first key x xs low below =
      below_none total key (x ∷ xs) (low, all_weaker (λ y. cmp x y ≡ Less) (λ y. cmp key y ≡ Less) (λ y later. total.trans key x y low later) xs below)

  firsts : (x y : T) (xs ys : List T) → IsStrictlySorted cmp (x ∷ xs) → IsStrictlySorted cmp (y ∷ ys) → ((key : T) → found cmp key (x ∷ xs) ≡ found cmp key (y ∷ ys)) → x ≡ y
  firsts x y xs ys sorted others same = by (cmp y x) refl
    where
      by : (o : Ordering) → cmp y x ≡ o → x ≡ y
      by Less is = absurd (none-some y (sym (below_first y x xs is sorted.0) ∙ same y ∙ found_first y ys))
      by Equal is = same_Some x y (sym (found_first x xs) ∙ same x ∙ found_by x y ys true (ap is_eq is))
      by Greater is = absurd (none-some x (sym (below_first x y ys (below_from_above total y x is) others.0) ∙ sym (same x) ∙ found_first x xs))

  -- what is found after the first item
  behind : (x : T) (xs ys : List T) → IsStrictlySorted cmp (x ∷ xs) → IsStrictlySorted cmp (x ∷ ys) → ((key : T) → found cmp key (x ∷ xs) ≡ found cmp key (x ∷ ys)) → (key : T)
      → found cmp key xs ≡ found cmp key ys
  behind x xs ys sorted others same key = by (ties cmp key x) refl
    where
      none : (zs : List T) → AllByRecursion (λ z. cmp x z ≡ Less) zs → cmp x key ≡ Equal → found cmp key zs ≡ None
      none zs below tie = sym (found_alike total x key zs tie) ∙ below_none total x zs below

      by : (b : Bool) → ties cmp key x ≡ b → found cmp key xs ≡ found cmp key ys
      by true is = let tie = tie_from_test (cmp x key) is in none xs sorted.0 tie ∙ sym (none ys others.0 tie)
      by false is = sym (found_by key x xs false is) ∙ same key ∙ found_by key x ys false is

  pub same_items : (xs ys : List T) → IsStrictlySorted cmp xs → IsStrictlySorted cmp ys → ((key : T) → found cmp key xs ≡ found cmp key ys) → xs ≡ ys
  same_items [] [] sorted others same = refl
  same_items [] (y ∷ ys) sorted others same = absurd (none-some y (same y ∙ found_first y ys))
  same_items (x ∷ xs) [] sorted others same = absurd (none-some x (sym (same x) ∙ found_first x xs))
  same_items (x ∷ xs) (y ∷ ys) sorted others same =
      let here : x ≡ y = firsts x y xs ys sorted others same in
      let others_here : IsStrictlySorted cmp (x ∷ ys) = subst (λ z. IsStrictlySorted cmp (z ∷ ys)) (sym here) others in
      let same_here : (key : T) → found cmp key (x ∷ xs) ≡ found cmp key (x ∷ ys) = subst (λ z. (key : T) → found cmp key (x ∷ xs) ≡ found cmp key (z ∷ ys)) (sym here) same in
      ap (λ (zs : List T). x ∷ zs) (same_items xs ys sorted.1 others_here.1 (behind x xs ys sorted others_here same_here))
      ∙ ap (λ (z : T). z ∷ ys) here
