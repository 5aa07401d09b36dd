-- The objects that can be numbered are among the designations with a good verdict and no number.
use Rattle.std.proofs.Common.{◌≡◌, ◌↔◌, zero, suc, Bool, true, false, cond, List, [], ◌∷◌, Option, Some, None, refl, ap, sym, subst, ◌∙◌, arith}
use Rattle.std.specs.Prelude.{◌&&◌, filter, IsSome, is_some, is_none}
use Rattle.std.specs.List.{Contains, AllByRecursion}
use Rattle.std.specs.Ordering.{is_eq}
use Rattle.std.specs.declared.cmp.Ordering.{Ordering}
use Rattle.std.specs.declared.cmp.Ordering.TheVariants.{Less}
use Rattle.std.proofs.lemmas.Bool.{and_parts, and_from}
use Rattle.packed_names.specs.declared.name.Designation.{Designation}
use Rattle.packed_names.specs.contracts.name.DesignationOrd.TheImpl as derived
use Rattle.packed_names.specs.Laws.{OrderLaws}
use Rattle.ordered_list.specs.Orders.{IsStrictlySorted, ties, found}
use Rattle.identify_core.specs.Acts.{principal, is_principal_of, given_in_order}
use Rattle.identify_core.specs.Principals.{IsBefore, IsAscending}
use Rattle.numbering_core.specs.Numbers.{number_of}
use Rattle.numbering_core.specs.Open.{AreOpen}
use Rattle.numbering_core.specs.Verdicts.{verdict_in_force, is_good}
use Rattle.act_model.specs.declared.deed.Deed.{Deed}
use Rattle.act_model.specs.Holdings.{holdings}
use Rattle.act_model.specs.Designations.{links_of, is_principal}
use Rattle.act_model.specs.Verdicts.{verdicts_of}
use Rattle.act_model.specs.Numbers.{numbers_of, is_observed}
use Rattle.act_model.specs.Doing.{eligible_after}
use Rattle.object_rules.specs.Numbering.{is_eligible_after, eligible_among}

abbrev pub cmp : Designation → Designation → Ordering
cmp = (derived.ghosts).cmp

-- ---- some of a list in order

all_among : {X : Type 0} (P : X → Type 0) (test : X → Bool) (xs : List X) → AllByRecursion P xs → AllByRecursion P (filter test xs)
all_among P test [] all = tt
all_among P test (x ∷ xs) all = by (test x) (all_among P test xs all.1)
  where
    by : (b : Bool) → AllByRecursion P (filter test xs) → AllByRecursion P (cond b (x ∷ filter test xs) (filter test xs))
    by true rest = (all.0, rest)
    by false rest = rest

sorted_among : (test : Designation → Bool) (ds : List Designation) → IsStrictlySorted cmp ds → IsStrictlySorted cmp (filter test ds)
sorted_among test [] sorted = tt
sorted_among test (d ∷ ds) sorted = by (test d) (sorted_among test ds sorted.1)
  where
    by : (b : Bool) → IsStrictlySorted cmp (filter test ds) → IsStrictlySorted cmp (cond b (d ∷ filter test ds) (filter test ds))
    by true rest = (all_among (λ (x : Designation). cmp d x ≡ Less) test ds sorted.0, rest)
    by false rest = rest

among_twice : (p q : Designation → Bool) (ds : List Designation) → filter p (filter q ds) ≡ filter (λ d. q d && p d) ds
among_twice p q [] = refl
among_twice p q (d ∷ ds) = by (q d) (among_twice p q ds)
  where
    both : List Designation
    both = filter (λ d. q d && p d) ds

    by : (b : Bool) → filter p (filter q ds) ≡ both → filter p (cond b (d ∷ filter q ds) (filter q ds)) ≡ cond (b && p d) (d ∷ both) both
    by true rest = ap (λ (es : List Designation). cond (p d) (d ∷ es) es) rest
    by false rest = rest

module _ (orders : OrderLaws) where
  all_before : (d : Designation) (ds : List Designation) → IsBefore d ds → AllByRecursion (λ (x : Designation). cmp d x ≡ Less) ds
  all_before d [] before = tt
  all_before d (x ∷ ds) before = (orders.compared d x ∙ before.0, all_before d ds before.1)

  sorted_ascending : (ds : List Designation) → IsAscending ds → IsStrictlySorted cmp ds
  sorted_ascending [] up = tt
  sorted_ascending (d ∷ ds) up = (all_before d ds up.0, sorted_ascending ds up.1)

  -- ---- what is found

  tied : (key d : Designation) → ties cmp key d ≡ true → d ≡ key
  tied key d is = (orders.designations d key).0 (sym (ap is_eq (orders.compared d key)) ∙ is)

  tied_itself : (d : Designation) → ties cmp d d ≡ true
  tied_itself d = ap is_eq (orders.compared d d) ∙ (orders.designations d d).1 refl

  found_there : (key : Designation) (ds : List Designation) → Contains ds key → is_some (found cmp key ds) ≡ true
  found_there key [] among = absurd (omega (arith, among.1))
  found_there key (d ∷ ds) (zero, within, here) =
      ap (λ (b : Bool). is_some (cond b (Some d) (found cmp key ds))) (subst (λ (e : Designation). ties cmp e d ≡ true) here (tied_itself d))
  found_there key (d ∷ ds) (suc k, within, here) = by (ties cmp key d) (found_there key ds (k, omega (arith, within), here))
    where
      by : (b : Bool) → is_some (found cmp key ds) ≡ true → is_some (cond b (Some d) (found cmp key ds)) ≡ true
      by true rest = refl
      by false rest = rest

  -- the key itself is found, where it is one of those that are chosen
  found_among : (test : Designation → Bool) (key : Designation) (ds : List Designation)
      → found cmp key (filter test ds) ≡ cond (test key && is_some (found cmp key ds)) (Some key) None
  found_among test key [] = by (test key)
    where
      by : (b : Bool) → None ≡ cond (b && false) (Some key) None
      by true = refl
      by false = refl
  found_among test key (d ∷ ds) = by (test d) (ties cmp key d) refl refl (found_among test key ds)
    where
      rest : List Designation
      rest = filter test ds

      answer : Bool → Bool → Option Designation
      answer passes there = cond (passes && there) (Some key) None

      by : (t b : Bool) → test d ≡ t → ties cmp key d ≡ b → found cmp key rest ≡ answer (test key) (is_some (found cmp key ds))
          → found cmp key (cond t (d ∷ rest) rest) ≡ answer (test key) (is_some (cond b (Some d) (found cmp key ds)))
      by true true passes here more =
          ap (λ (b : Bool). cond b (Some d) (found cmp key rest)) here ∙ ap Some (tied key d here)
          ∙ sym (ap (λ (b : Bool). answer b true) (subst (λ (e : Designation). test e ≡ true) (tied key d here) passes))
      by true false passes apart more = ap (λ (b : Bool). cond b (Some d) (found cmp key rest)) apart ∙ more
      by false true fails here more =
          let out : test key ≡ false = subst (λ (e : Designation). test e ≡ false) (tied key d here) fails in
          more ∙ ap (λ (b : Bool). answer b (is_some (found cmp key ds))) out ∙ sym (ap (λ (b : Bool). answer b true) out)
      by false false fails apart more = more

  -- two lists in order, of which each has all that pass, have the same ones that pass
  same_among : ((items others : List Designation) → IsStrictlySorted cmp items → IsStrictlySorted cmp others
      → ((key : Designation) → found cmp key items ≡ found cmp key others) → items ≡ others)
      → (test : Designation → Bool) (items others : List Designation) → IsStrictlySorted cmp items → IsStrictlySorted cmp others
      → ((key : Designation) → test key ≡ true → is_some (found cmp key items) ≡ true)
      → ((key : Designation) → test key ≡ true → is_some (found cmp key others) ≡ true) → filter test items ≡ filter test others
  same_among same test items others sorted others_sorted there others_there =
      same (filter test items) (filter test others) (sorted_among test items sorted) (sorted_among test others others_sorted) alike
    where
      alike : (key : Designation) → found cmp key (filter test items) ≡ found cmp key (filter test others)
      alike key = found_among test key items ∙ by (test key) refl ∙ sym (found_among test key others)
        where
          by : (b : Bool) → test key ≡ b
              → cond (b && is_some (found cmp key items)) (Some key) None ≡ cond (b && is_some (found cmp key others)) (Some key) None
          by true is = ap (λ (t : Bool). cond t (Some key) None) (there key is ∙ sym (others_there key is))
          by false is = refl

  -- ---- of the designations with a good verdict and no number

  given_if : (key : Designation) (p : Option Designation) → is_principal_of key p ≡ true → IsSome p
  given_if key None is = absurd cc
  given_if key (Some p) is = refl

  -- the principals of the objects that can be numbered are all of the objects that can
  pub eligible_open : ((items others : List Designation) → IsStrictlySorted cmp items → IsStrictlySorted cmp others
      → ((key : Designation) → found cmp key items ≡ found cmp key others) → items ≡ others)
      → (past : List Deed) → IsAscending (given_in_order (links_of past))
      → ((d : Designation) → Contains (given_in_order (links_of past)) d ↔ IsSome (principal (links_of past) d))
      → (items : List Designation) → IsStrictlySorted cmp items → AreOpen cmp (verdict_in_force (verdicts_of past)) (numbers_of past) items
      → eligible_among past items ≡ eligible_after past
  eligible_open same past up given items sorted are =
      same_among same test items (given_in_order (links_of past)) sorted (sorted_ascending (given_in_order (links_of past)) up) there given_there
      ∙ sym (among_twice (is_eligible_after past) (is_principal (links_of past)) (given_in_order (links_of past)))
    where
      test : Designation → Bool
      test d = is_principal (links_of past) d && is_eligible_after past d

      there : (key : Designation) → test key ≡ true → is_some (found cmp key items) ≡ true
      there key is =
          let unnumbered = is_none (number_of (numbers_of past) key) in
          let observed = is_observed (holdings past) (links_of past) key in
          let good = is_good (verdict_in_force (verdicts_of past) key) in
          let parts = and_parts unnumbered (observed && good) (and_parts (is_principal (links_of past) key) (is_eligible_after past key) is).1 in
          are key ∙ and_from unnumbered good parts.0 (and_parts observed good parts.1).1

      given_there : (key : Designation) → test key ≡ true → is_some (found cmp key (given_in_order (links_of past))) ≡ true
      given_there key is =
          let principal_is = (and_parts (is_principal (links_of past) key) (is_eligible_after past key) is).0 in
          found_there key (given_in_order (links_of past)) ((given key).1 (given_if key (principal (links_of past) key) principal_is))
