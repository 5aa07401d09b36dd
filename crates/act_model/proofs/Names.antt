-- Every designation that was given is one that its half-month has, and every number one that a minor planet can have.
use Rattle.std.proofs.Common.{◌≡◌, ℕ, ◌≤◌, List, [], ◌∷◌, Bool, true, false, cond, eqb, Option, Some, None, option_map, refl, subst, ◌∙◌, arith}
use Rattle.std.specs.Prelude.{is_some, IsTrue}
use Rattle.std.specs.List.{AllByRecursion}
use Rattle.std.specs.Ordering.{eq_by_cmp}
use Rattle.std.proofs.lemmas.Bool.{eqb-true}
use Rattle.packed_names.specs.declared.half_month.HalfMonth.{HalfMonth}
use Rattle.packed_names.specs.declared.name.Designation.{Designation}
use Rattle.packed_names.specs.declared.name.Designation.TheVariants.{Provisional}
use Rattle.packed_names.specs.declared.number.Number.{Number}
use Rattle.packed_names.specs.Order.{designation_cmp}
use Rattle.packed_names.specs.Ranges.{IsHalfMonth, IsNumber, IsDesignation, limit_of}
use Rattle.designate_core.specs.Unbroken.{NoneBeforeBegun, CountsGrow}
use Rattle.identify_core.specs.Acts.{LinkAct, is_principal_of, principal_after, principal}
use Rattle.identify_core.specs.Acts.LinkAct.{Given, Joined, Parted}
use Rattle.numbering_core.specs.declared.numbering.Numbering.{Numbering}
use Rattle.numbering_core.specs.Numbers.{number_of, named, IsUnbroken}
use Rattle.act_model.specs.declared.deed.Deed.{Deed}
use Rattle.act_model.specs.declared.deed.Deed.TheVariants.{Designated, Identified, Separated, Opened}
use Rattle.act_model.specs.declared.entry.Entry.{Entry}
use Rattle.act_model.specs.Deeds.{deeds}
use Rattle.act_model.specs.Designations.{with_order, with_orders, with_all_given, with_link, links_of, is_given}
use Rattle.act_model.specs.Fitting.{FitsObjects}
use Rattle.act_model.specs.Numbers.{numbers_of}
use Rattle.act_model.proofs.DeedCases.{deed_cases}
use Rattle.act_model.proofs.Fits.{AllAscend, deed_fits, numbers_unbroken}
use Rattle.act_model.proofs.Given.{AreSame, IsItself}
use Rattle.act_model.proofs.Homes.{EqualIsSame, StayOwn, HomeGiven, named_given, sound}
use Rattle.act_model.proofs.InRange.{AreFirst, AreOpenings}

-- ---- principals

-- what has a principal is a designation, and so is the principal
abbrev AreDesignations : List LinkAct → Type 0
AreDesignations acts = (d p : Designation) → principal acts d ≡ Some p → IsDesignation d × IsDesignation p

given_is : (acts : List LinkAct) (d : Designation) → AreDesignations acts → IsTrue (is_given acts d) → IsDesignation d
given_is acts d all given = by (principal acts d) refl given
  where
    by : (o : Option Designation) → principal acts d ≡ o → IsTrue (is_some o) → IsDesignation d
    by None is some = absurd cc
    by (Some p) is some = (all d p is).0

given_by_test : (acts : List LinkAct) (given d p : Designation) (b : Bool) → (b ≡ true → given ≡ d) → IsDesignation given → AreDesignations acts
    → cond b (Some given) (principal acts d) ≡ Some p → IsDesignation d × IsDesignation p
given_by_test acts given d p true same name all is = (let known : given ≡ p = cc in (subst IsDesignation (same refl) name, subst IsDesignation known name))
given_by_test acts given d p false same name all is = all d p is

joined_by_test : (acts : List LinkAct) (p d r q : Designation) (b : Bool) → principal acts d ≡ Some r → IsDesignation p → AreDesignations acts
    → cond b (Some p) (Some r) ≡ Some q → IsDesignation d × IsDesignation q
joined_by_test acts p d r q true was name all is = (let known : p ≡ q = cc in ((all d r was).0, subst IsDesignation known name))
joined_by_test acts p d r q false was name all is = all d q (was ∙ is)

joined_by : (acts : List LinkAct) (p s d q : Designation) (o : Option Designation) → principal acts d ≡ o → IsDesignation p → AreDesignations acts
    → principal_after (Joined p s) d o ≡ Some q → IsDesignation d × IsDesignation q
joined_by acts p s d q None was name all is = absurd cc
joined_by acts p s d q (Some r) was name all is = joined_by_test acts p d r q (is_principal_of s (Some r)) was name all is

parted_by : (acts : List LinkAct) (s d q : Designation) (b : Bool) (o : Option Designation) → principal acts d ≡ o → IsDesignation s → AreDesignations acts
    → cond b (option_map (λ (_ : Designation). s) o) o ≡ Some q → IsDesignation d × IsDesignation q
parted_by acts s d q true None was name all is = absurd cc
parted_by acts s d q true (Some r) was name all is = (let known : s ≡ q = cc in ((all d r was).0, subst IsDesignation known name))
parted_by acts s d q false o was name all is = all d q (was ∙ is)

module _ (same : AreSame) where
  given_more : (acts : List LinkAct) (given : Designation) → IsDesignation given → AreDesignations acts → AreDesignations (Given given ∷ acts)
  given_more acts given name all = λ d p is. given_by_test acts given d p (eq_by_cmp designation_cmp given d) (same given d) name all is

  joined_more : (acts : List LinkAct) (p s : Designation) → IsDesignation p → AreDesignations acts → AreDesignations (Joined p s ∷ acts)
  joined_more acts p s name all = λ d q is. joined_by acts p s d q (principal acts d) refl name all is

  parted_more : (acts : List LinkAct) (s : Designation) → IsDesignation s → AreDesignations acts → AreDesignations (Parted s ∷ acts)
  parted_more acts s name all = λ d q is. parted_by acts s d q (eq_by_cmp designation_cmp d s) (principal acts d) refl name all is

  carried_more : (half : HalfMonth) (given : ℕ) (orders : List ℕ) (acts : List LinkAct) → IsHalfMonth half → given ≤ limit_of half → AllByRecursion (λ order. (1 ≤ order) × (order ≤ given)) orders
      → AreDesignations acts → AreDesignations (with_all_given (with_orders half orders) acts)
  carried_more half given [] acts is most are all = all
  carried_more half given (order ∷ orders) acts is most are all =
      let name : IsDesignation (Provisional (with_order half order)) = record { half = is; order_from = are.0.0; order_to = omega (arith, are.0.1, most) } in
      carried_more half given orders (Given (Provisional (with_order half order)) ∷ acts) is most are.1 (given_more acts (Provisional (with_order half order)) name all)

  linked : (past : List Deed) (deed : Deed) → AreDesignations (links_of past) → FitsObjects past deed → AreDesignations (with_link deed (links_of past))
  linked past (Designated tracklets given discovery) before fits = (let new = fits.1 in given_more (links_of past) (Provisional given) new.name before)
  linked past (Opened half given carried) before fits =
      let ranges = fits.ranges in
      carried_more half given carried (links_of past) ranges.half ranges.given_to ranges.orders before
  linked past (Identified p s) before fits = joined_more (links_of past) p s (before p p fits.0).0 before
  linked past (Separated s) before fits = parted_more (links_of past) s (given_is (links_of past) s before fits.0) before
  linked past _ before fits = before

-- ---- numbers

number_known : (ns : List Numbering) (d : Designation) (n : Number) → IsUnbroken ns → number_of ns d ≡ Some n → IsNumber n.0
number_known [] d n unbroken found = absurd cc
number_known (newest ∷ past) d n unbroken found = by (eq_by_cmp designation_cmp newest.designation d) (number_known past d n unbroken.3) found
  where
    by : (b : Bool) → (number_of past d ≡ Some n → IsNumber n.0) → cond b (Some newest.number) (number_of past d) ≡ Some n → IsNumber n.0
    by true rest is = (let known : newest.number ≡ n = cc in subst (λ (m : Number). IsNumber m.0) known unbroken.0)
    by false rest is = rest is

number_named : (ns : List Numbering) (n : ℕ) (d : Designation) → IsUnbroken ns → named ns n ≡ Some d → IsNumber n
number_named [] n d unbroken found = absurd cc
number_named (newest ∷ past) n d unbroken found = by (eqb newest.number.0 n) refl (number_named past n d unbroken.3) found
  where
    by : (b : Bool) → eqb newest.number.0 n ≡ b → (named past n ≡ Some d → IsNumber n) → cond b (Some newest.designation) (named past n) ≡ Some d → IsNumber n
    by true test rest is = subst IsNumber (eqb-true newest.number.0 n test) unbroken.0
    by false test rest is = rest is

-- ---- histories

module _ (same : AreSame) (itself : IsItself) (none : NoneBeforeBegun) (grow : CountsGrow) (up : AllAscend) (firsts : AreFirst) (openings : AreOpenings) where
  all_designations : (history : List Entry) → AreDesignations (links_of (deeds history))
  all_designations [] = λ d p none. absurd cc
  all_designations (e ∷ past) =
      let before = all_designations past in
      deed_cases (λ (deed : Deed). AreDesignations (with_link deed (links_of (deeds past)))) (deeds past) e before
      (λ a deed read done. linked same (deeds past) deed before (deed_fits same itself none grow up firsts openings past e a deed read done))

  pub given_named : (history : List Entry) (d : Designation) → is_given (links_of (deeds history)) d ≡ true → IsDesignation d
  given_named history d given = given_is (links_of (deeds history)) d (all_designations history) given

  pub principal_named : (history : List Entry) (d p : Designation) → principal (links_of (deeds history)) d ≡ Some p → IsDesignation p
  principal_named history d p is = (all_designations history d p is).1

  pub number_is : (history : List Entry) (d : Designation) (n : Number) → number_of (numbers_of (deeds history)) d ≡ Some n → IsNumber n.0
  number_is history d n found = number_known (numbers_of (deeds history)) d n (numbers_unbroken same itself none grow up firsts openings history) found

  pub numbered_is : EqualIsSame → StayOwn → (history : List Entry) (n : ℕ) (d : Designation) → named (numbers_of (deeds history)) n ≡ Some d → IsNumber n × IsDesignation d
  numbered_is equal stay history n d found =
      let s = sound equal stay history in
      let given : HomeGiven (links_of (deeds history)) (Some d) = subst (HomeGiven (links_of (deeds history))) found (named_given (links_of (deeds history)) (numbers_of (deeds history)) n s.numbers) in
      (number_named (numbers_of (deeds history)) n d (numbers_unbroken same itself none grow up firsts openings history) found, given_named history d given)
