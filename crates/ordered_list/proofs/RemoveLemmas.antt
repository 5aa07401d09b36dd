-- What removing leaves, and removing from either part of merged lists.
use Rattle.std.proofs.Common.{◌≡◌, true, false, Bool, cond, List, [], ◌∷◌, Option, Some, None, refl, ap, sym, subst, ◌∙◌}
use Rattle.std.specs.Prelude.{if◌then◌else◌}
use Rattle.std.specs.Cmp.{IsTotalOrder}
use Rattle.std.specs.List.{AllByRecursion}
use Rattle.std.specs.declared.cmp.Ordering.{Ordering}
use Rattle.std.specs.declared.cmp.Ordering.TheVariants.{Less, Equal, Greater}
use Rattle.std.specs.Ordering.{is_eq, ordering_reverse}
use Rattle.std.proofs.lemmas.Bool.{false≢true}
use Rattle.ordered_list.specs.Orders.{ties, IsStrictlySorted, found, inserted, removed, merged, AreApart}
use Rattle.ordered_list.proofs.InsertLemmas.{inserted_by, tied_both}
use Rattle.ordered_list.proofs.MergeLemmas.{all_weaker, none_ties, ties_none, sorted-merged, found_alike, below_none, found_settled, tie_from_test}

-- a removal, by whether the first item goes
removed_by : {T : Type 0} (cmp : T → T → Ordering) (key x : T) (xs : List T) (b : Bool) → ties cmp key x ≡ b → removed cmp key (x ∷ xs) ≡ cond b xs (x ∷ removed cmp key xs)
removed_by cmp key x xs b is = ap (λ (b : Bool). cond b xs (x ∷ removed cmp key xs)) is

-- what holds of each item holds of those that are left
pub all-removed : {T : Type 0} (cmp : T → T → Ordering) (P : T → Type 0) (key : T) (xs : List T) → AllByRecursion P xs → AllByRecursion P (removed cmp key xs)
all-removed cmp P key [] all = tt
all-removed cmp P key (x ∷ xs) all = by (ties cmp key x) refl (all-removed cmp P key xs all.1)
  where
    by : (b : Bool) → ties cmp key x ≡ b → AllByRecursion P (removed cmp key xs) → AllByRecursion P (removed cmp key (x ∷ xs))
    by true is rest = subst (AllByRecursion P) (sym (removed_by cmp key x xs true is)) all.1
    by false is rest = subst (AllByRecursion P) (sym (removed_by cmp key x xs false is)) (all.0, rest)

-- where nothing ties with the key nothing is removed
removed_none_by : {T : Type 0} (cmp : T → T → Ordering) (key : T) (xs : List T) → AllByRecursion (λ x. ties cmp key x ≡ false) xs → removed cmp key xs ≡ xs
removed_none_by cmp key [] none = refl
removed_none_by cmp key (x ∷ xs) none = removed_by cmp key x xs false none.0 ∙ ap (λ (ys : List _). x ∷ ys) (removed_none_by cmp key xs none.1)

pub removed_none : {T : Type 0} (cmp : T → T → Ordering) (key : T) (xs : List T) → found cmp key xs ≡ None → removed cmp key xs ≡ xs
removed_none cmp key xs none = removed_none_by cmp key xs (none_ties cmp key xs none)

module _ {T : Type 0} {cmp : T → T → Ordering} (total : IsTotalOrder cmp) where
  pub sorted-removed : (key : T) (xs : List T) → IsStrictlySorted cmp xs → IsStrictlySorted cmp (removed cmp key xs)
  sorted-removed key [] sorted = tt
  sorted-removed key (x ∷ xs) sorted = by (ties cmp key x) refl (sorted-removed key xs sorted.1)
    where
      by : (b : Bool) → ties cmp key x ≡ b → IsStrictlySorted cmp (removed cmp key xs) → IsStrictlySorted cmp (removed cmp key (x ∷ xs))
      by true is rest = subst (IsStrictlySorted cmp) (sym (removed_by cmp key x xs true is)) sorted.1
      by false is rest = subst (IsStrictlySorted cmp) (sym (removed_by cmp key x xs false is)) (all-removed cmp (λ y. cmp x y ≡ Less) key xs sorted.0, rest)

  -- the item that was just put in its place goes, and the others stay
  removed_again : (key item : T) (xs : List T) → ties cmp key item ≡ true → AllByRecursion (λ x. ties cmp key x ≡ false) xs → removed cmp key (inserted cmp item xs) ≡ xs
  removed_again key item [] tie none = removed_by cmp key item [] true tie
  removed_again key item (x ∷ xs) tie none = by (cmp x item) refl (removed_again key item xs tie none.1)
    where
      by : (o : Ordering) → cmp x item ≡ o → removed cmp key (inserted cmp item xs) ≡ xs → removed cmp key (inserted cmp item (x ∷ xs)) ≡ x ∷ xs
      by Less is rest =
          ap (removed cmp key) (inserted_by cmp item x xs Less is) ∙ removed_by cmp key x (inserted cmp item xs) false none.0 ∙ ap (λ (ys : List T). x ∷ ys) rest
      by Equal is rest = absurd (false≢true (sym none.0 ∙ ap is_eq (total.congr x item key is) ∙ tie))
      by Greater is rest = ap (removed cmp key) (inserted_by cmp item x xs Greater is) ∙ removed_by cmp key item (x ∷ xs) true tie

  -- an item below all of a list comes before it
  pub inserted_first : (item : T) (xs : List T) → AllByRecursion (λ x. cmp item x ≡ Less) xs → inserted cmp item xs ≡ item ∷ xs
  inserted_first item [] below = refl
  inserted_first item (x ∷ xs) below = inserted_by cmp item x xs Greater (total.antisymm x item ∙ ap ordering_reverse below.0)

  -- an insertion and a removal of another change places
  removed_other : (key item : T) (xs : List T) → IsStrictlySorted cmp xs → ties cmp key item ≡ false → removed cmp key (inserted cmp item xs) ≡ inserted cmp item (removed cmp key xs)
  removed_other key item [] sorted other = removed_by cmp key item [] false other
  removed_other key item (x ∷ xs) sorted other = by (cmp x item) (ties cmp key x) refl refl (removed_other key item xs sorted.1 other)
    where
      by : (o : Ordering) (b : Bool) → cmp x item ≡ o → ties cmp key x ≡ b → removed cmp key (inserted cmp item xs) ≡ inserted cmp item (removed cmp key xs)
          → removed cmp key (inserted cmp item (x ∷ xs)) ≡ inserted cmp item (removed cmp key (x ∷ xs))
      by Less true is goes rest =
          ap (removed cmp key) (inserted_by cmp item x xs Less is) ∙ removed_by cmp key x (inserted cmp item xs) true goes ∙ ap (inserted cmp item) (sym (removed_by cmp key x xs true goes))
      by Less false is stays rest =
          ap (removed cmp key) (inserted_by cmp item x xs Less is) ∙ removed_by cmp key x (inserted cmp item xs) false stays ∙ ap (λ (ys : List T). x ∷ ys) rest
          ∙ sym (ap (inserted cmp item) (removed_by cmp key x xs false stays) ∙ inserted_by cmp item x (removed cmp key xs) Less is)
      by Equal true is goes rest = absurd (false≢true (sym other ∙ sym (ap is_eq (total.congr x item key is)) ∙ goes))
      by Equal false is stays rest =
          ap (removed cmp key) (inserted_by cmp item x xs Equal is) ∙ removed_by cmp key item xs false other
          ∙ sym (ap (inserted cmp item) (removed_by cmp key x xs false stays) ∙ inserted_by cmp item x (removed cmp key xs) Equal is)
      by Greater true is goes rest =
          let below : cmp item x ≡ Less = total.antisymm item x ∙ ap ordering_reverse is in
          ap (removed cmp key) (inserted_by cmp item x xs Greater is) ∙ removed_by cmp key item (x ∷ xs) false other
          ∙ ap (λ (ys : List T). item ∷ ys) (removed_by cmp key x xs true goes)
          ∙ sym (ap (inserted cmp item) (removed_by cmp key x xs true goes)
          ∙ inserted_first item xs (all_weaker (λ y. cmp x y ≡ Less) (λ y. cmp item y ≡ Less) (λ y later. total.trans item x y below later) xs sorted.0))
      by Greater false is stays rest =
          ap (removed cmp key) (inserted_by cmp item x xs Greater is) ∙ removed_by cmp key item (x ∷ xs) false other
          ∙ ap (λ (ys : List T). item ∷ ys) (removed_by cmp key x xs false stays)
          ∙ sym (ap (inserted cmp item) (removed_by cmp key x xs false stays) ∙ inserted_by cmp item x (removed cmp key xs) Greater is)

  pub removed_settled : (key : T) (xs ys : List T) → IsStrictlySorted cmp xs → found cmp key ys ≡ None → merged cmp (removed cmp key xs) ys ≡ removed cmp key (merged cmp xs ys)
  removed_settled key xs ys sorted none = by ys (none_ties cmp key ys none)
    where
      by : (ys : List T) → AllByRecursion (λ y. ties cmp key y ≡ false) ys → merged cmp (removed cmp key xs) ys ≡ removed cmp key (merged cmp xs ys)
      by [] all = refl
      by (y ∷ ys) all = ap (inserted cmp y) (by ys all.1) ∙ sym (removed_other key y (merged cmp xs ys) (sorted-merged total xs ys sorted) all.0)

  pub removed_newest : (key : T) (xs ys : List T) → IsStrictlySorted cmp xs → IsStrictlySorted cmp ys → AreApart cmp xs ys → found cmp key xs ≡ None
      → merged cmp xs (removed cmp key ys) ≡ removed cmp key (merged cmp xs ys)
  removed_newest key xs [] sorted sorted_ys apart none = sym (removed_none cmp key xs none)
  removed_newest key xs (y ∷ ys) sorted sorted_ys apart none = by (ties cmp key y) refl (removed_newest key xs ys sorted sorted_ys.1 apart.1 none)
    where
      by : (b : Bool) → ties cmp key y ≡ b → merged cmp xs (removed cmp key ys) ≡ removed cmp key (merged cmp xs ys)
          → merged cmp xs (removed cmp key (y ∷ ys)) ≡ removed cmp key (merged cmp xs (y ∷ ys))
      by true is rest =
          let tie : cmp y key ≡ Equal = tie_from_test (cmp y key) is in
          let gone : found cmp y (merged cmp xs ys) ≡ None = found_settled total y xs ys (below_none total y ys sorted_ys.0) ∙ apart.0 in
          ap (merged cmp xs) (removed_by cmp key y ys true is)
          ∙ sym (removed_again key y (merged cmp xs ys) is (none_ties cmp key (merged cmp xs ys) (sym (found_alike total y key (merged cmp xs ys) tie) ∙ gone)))
      by false is rest =
          ap (merged cmp xs) (removed_by cmp key y ys false is) ∙ ap (inserted cmp y) rest ∙ sym (removed_other key y (merged cmp xs ys) (sorted-merged total xs ys sorted) is)

  -- ---- lists that are apart

  pub found_left : (key other : T) (xs : List T) → found cmp other xs ≡ None → found cmp other (removed cmp key xs) ≡ None
  found_left key other xs none = ties_none cmp other (removed cmp key xs) (all-removed cmp (λ x. ties cmp other x ≡ false) key xs (none_ties cmp other xs none))

  pub apart_less : (key : T) (xs ys : List T) → AreApart cmp xs ys → AreApart cmp (removed cmp key xs) ys
  apart_less key xs ys apart = all_weaker (λ y. found cmp y xs ≡ None) (λ y. found cmp y (removed cmp key xs) ≡ None) (λ y none. found_left key y xs none) ys apart

  pub apart_fewer : (key : T) (xs ys : List T) → AreApart cmp xs ys → AreApart cmp xs (removed cmp key ys)
  apart_fewer key xs ys apart = all-removed cmp (λ y. found cmp y xs ≡ None) key ys apart

  -- ---- what is found

  pub found-removed : (other key : T) (xs : List T) → IsStrictlySorted cmp xs → found cmp other (removed cmp key xs) ≡ (if ties cmp other key then None else found cmp other xs)
  found-removed other key [] sorted = either (ties cmp other key) None
    where
      either : (b : Bool) (o : Option T) → o ≡ cond b o o
      either true o = refl
      either false o = refl
  found-removed other key (x ∷ xs) sorted = by (ties cmp key x) refl (found-removed other key xs sorted.1)
    where
      by : (b : Bool) → ties cmp key x ≡ b → found cmp other (removed cmp key xs) ≡ cond (ties cmp other key) None (found cmp other xs)
          → found cmp other (removed cmp key (x ∷ xs)) ≡ cond (ties cmp other key) None (found cmp other (x ∷ xs))
      by true is rest = ap (found cmp other) (removed_by cmp key x xs true is) ∙ gone (ties cmp other key) refl
        where
          tie : cmp x key ≡ Equal
          tie = tie_from_test (cmp x key) is

          gone : (b : Bool) → ties cmp other key ≡ b → found cmp other xs ≡ cond b None (found cmp other (x ∷ xs))
          gone true own =
              let same : cmp x other ≡ Equal = total.congr x key other tie ∙ tie_from_test (cmp key other) own in
              sym (found_alike total x other xs same) ∙ below_none total x xs sorted.0
          gone false own =
              let apart : ties cmp other x ≡ false = ap is_eq (total.congr x key other tie) ∙ own in
              sym (ap (λ (b : Bool). cond b (Some x) (found cmp other xs)) apart)
      by false is rest =
          ap (found cmp other) (removed_by cmp key x xs false is) ∙ ap (λ (o : Option T). cond (ties cmp other x) (Some x) o) rest
          ∙ apart (ties cmp other x) (ties cmp other key) refl refl
        where
          apart : (at_x own : Bool) → ties cmp other x ≡ at_x → ties cmp other key ≡ own
              → cond at_x (Some x) (cond own None (found cmp other xs)) ≡ cond own None (cond at_x (Some x) (found cmp other xs))
          apart true true here own = absurd (false≢true (sym is ∙ ap is_eq (tied_both total other x key here own)))
          apart true false here own = refl
          apart false own here is_own = refl
