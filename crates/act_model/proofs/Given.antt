-- Each designation that an object gets is the next one of its half-month, and wasn't given before. A half-month that is
-- taken over wasn't begun, and what it carries wasn't given before.
use Rattle.std.proofs.Common.{◌≡◌, ℤ, ◌+◌, ◌<◌, ◌≤◌, List, [], ◌∷◌, Bool, true, false, cond, Option, Some, None, option_map, Ok, refl, sym, ap, subst, ◌∙◌, inl, inr, arith}
use Rattle.std.specs.Prelude.{ℕ, take, not, nat_lt, nat_eq, IsFalse}
use Rattle.std.specs.List.{AllByRecursion, IsDistinct}
use Rattle.std.specs.declared.cmp.Ordering.{Ordering}
use Rattle.std.specs.declared.cmp.Ordering.TheVariants.{Less, Equal, Greater}
use Rattle.std.specs.Ordering.{nat_cmp, ordering_then, eq_by_cmp, is_eq}
use Rattle.std.proofs.lemmas.Bool.{cases_Bool}
use Rattle.std.proofs.lemmas.Bool.Decides.{nat_tests}
use Rattle.packed_names.specs.declared.half_month.HalfMonth.{HalfMonth}
use Rattle.packed_names.specs.declared.provisional.Provisional.{Provisional as ProvisionalName}
use Rattle.packed_names.specs.declared.name.Designation.{Designation}
use Rattle.packed_names.specs.declared.name.Designation.TheVariants.{Provisional}
use Rattle.packed_names.specs.Order.{half_cmp, designation_cmp}
use Rattle.packed_names.specs.Ranges.{limit_of}
use Rattle.act_bodies.specs.Bodies.{IsOpening}
use Rattle.designate_core.specs.Takes.{Take, RowAct, opened_in, taken_in, given_in, is_begun, next_in}
use Rattle.designate_core.specs.Takes.RowAct.{Opened as OpenedRow, Took}
use Rattle.designate_core.specs.Unbroken.{NoneBeforeBegun, CountsGrow}
use Rattle.identify_core.specs.Acts.{LinkAct, is_principal_of, principal}
use Rattle.identify_core.specs.Acts.LinkAct.{Given}
use Rattle.act_model.specs.declared.act.Act.{Act}
use Rattle.act_model.specs.declared.act.Act.TheVariants as act
use Rattle.act_model.specs.declared.deed.Deed.{Deed}
use Rattle.act_model.specs.declared.deed.Deed.TheVariants.{Designated, Identified, Separated, Opened}
use Rattle.act_model.specs.declared.entry.Entry.{Entry}
use Rattle.act_model.specs.Rows.{first_row}
use Rattle.act_model.specs.Holdings.{holdings}
use Rattle.act_model.specs.Designations.{row_acts_of, links_of, with_order, with_orders, with_all_given}
use Rattle.act_model.specs.Discoveries.{earliest, span, half_of}
use Rattle.act_model.specs.Doing.{object_rows, opening_rows, does}
use Rattle.act_model.specs.Deeds.{deeds}
use Rattle.act_model.specs.Fitting.{AreNew}
use Rattle.act_model.proofs.DeedCases.{deed_cases}
use Rattle.act_model.proofs.Designating.{designated}
use Rattle.act_model.proofs.InRange.{IsInRange, IsInRangeRead, AreFirst, AreOpenings, read_in_range}
use Rattle.act_model.proofs.Legal.{same_deed, by_deed}
use Rattle.act_model.proofs.RowLemmas.{rows_off, not_off}

-- ---- what a designation that is given is sure of, and a half-month that is taken over

abbrev pub IsNext : List RowAct → ProvisionalName → Type 0
IsNext rows given = (given ≡ next_in given.half rows) × (given_in given.half rows < limit_of given.half)

abbrev pub IsGivenNext : List Deed → Deed → Type 0
IsGivenNext past (Designated tracklets given discovery) = IsNext (row_acts_of past) given
IsGivenNext past (Opened half given carried) =
    IsFalse (is_begun half (row_acts_of past)) × IsOpening (record { half = half; given = given; carried = carried })
IsGivenNext past _ = Unit {0}

abbrev pub AreGivenNext : List Deed → Type 0
AreGivenNext [] = Unit {0}
AreGivenNext (deed ∷ past) = IsGivenNext past deed × AreGivenNext past

-- a half-month that isn't full has one more
pub has_more : (rows : List RowAct) (time : ℤ) (half : HalfMonth) → first_row (object_rows rows time half) ≡ None → given_in half rows < limit_of half
has_more rows time half none =
    let off : not (nat_lt (given_in half rows) (limit_of half)) ≡ false = (rows_off (object_rows rows time half) none).1.0 in
    let less = not_off (nat_lt (given_in half rows) (limit_of half)) off in
    grind (arith, nat_tests)

module _ (past : List Deed) (moment : ℤ) where
  pub act_next : (a : Act) (deed : Deed) → IsInRange a → does past moment a ≡ Ok deed → IsGivenNext past deed
  unfolding does
  act_next (act.Designate tracklets) deed range is =
      let d = designated (holdings past) (row_acts_of past) tracklets deed is in
      subst (IsGivenNext past) d.deed_is (refl, has_more (row_acts_of past) (span d.first d.more) (half_of (earliest d.first d.more).time) d.allowed)
  act_next (act.Opening half given carried) deed range is =
      let done = same_deed (first_row (opening_rows (row_acts_of past) half)) (Opened half given carried) deed is in
      subst (IsGivenNext past) done.1 ((rows_off (opening_rows (row_acts_of past) half) done.0).0, range)
  act_next _ deed range is = by_deed (IsGivenNext past) _ _ deed tt is

module _ (firsts : AreFirst) (openings : AreOpenings) where
  pub given_next : (history : List Entry) → AreGivenNext (deeds history)
  given_next [] = tt
  given_next (e ∷ past) = (
    deed_cases (IsGivenNext (deeds past)) (deeds past) e tt
        (λ a deed read done. act_next (deeds past) e.moment a deed (subst IsInRangeRead read (read_in_range firsts openings e.verb e.body)) done),
    given_next past,
  )

-- ---- a half-month's count

then_first : (o p : Ordering) → is_eq (ordering_then o p) ≡ true → is_eq o ≡ true
then_first Less p h = cc
then_first Equal p h = refl
then_first Greater p h = cc

then_equal : (o : Ordering) → is_eq o ≡ true → is_eq (ordering_then o Equal) ≡ true
then_equal Less h = cc
then_equal Equal h = refl
then_equal Greater h = cc

-- what compares as the same is the same, and each designation compares as itself
abbrev pub AreSame : Type 0
AreSame = (one other : Designation) → eq_by_cmp designation_cmp one other ≡ true → one ≡ other

abbrev pub IsItself : Type 0
IsItself = (d : Designation) → eq_by_cmp designation_cmp d d ≡ true

pub provisional_is : (one other : ProvisionalName) → Provisional one ≡ Provisional other → one ≡ other
provisional_is one other is = cc

module _ (same : AreSame) (itself : IsItself) where
  pub half_itself : (half : HalfMonth) → eq_by_cmp half_cmp half half ≡ true
  half_itself half = then_first (half_cmp half half) (nat_cmp 0 0) (itself (Provisional (with_order half 0)))

  pub half_same : (one other : HalfMonth) → eq_by_cmp half_cmp one other ≡ true → one ≡ other
  half_same one other is =
      let names = provisional_is (with_order one 0) (with_order other 0) (same (Provisional (with_order one 0)) (Provisional (with_order other 0)) (then_equal (half_cmp one other) is)) in
      ap (λ (p : ProvisionalName). p.half) names

  given_in-here : (given : ProvisionalName) (take : Take) (rows : List RowAct) → take.half ≡ given.half → given_in given.half (Took take ∷ rows) ≡ given_in given.half rows + 1
  given_in-here given take rows is =
      let here : eq_by_cmp half_cmp take.half given.half ≡ true = subst (λ (h : HalfMonth). eq_by_cmp half_cmp h given.half ≡ true) (sym is) (half_itself given.half) in
      let count = ap (λ (b : Bool). cond b (taken_in given.half rows + 1) (taken_in given.half rows)) here in
      omega (arith, count)

  opened_in-here : (p : ProvisionalName) (half : HalfMonth) (given : ℕ) (rows : List RowAct) → p.half ≡ half → opened_in p.half (OpenedRow half given ∷ rows) ≡ given
  opened_in-here p half given rows is =
      let here : eq_by_cmp half_cmp half p.half ≡ true = subst (λ (h : HalfMonth). eq_by_cmp half_cmp half h ≡ true) (sym is) (half_itself half) in
      ap (λ (b : Bool). cond b given (opened_in p.half rows)) here

  module _ (none : NoneBeforeBegun) (grow : CountsGrow) where
    -- ---- designations that are known

    abbrev IsKnown : List LinkAct → ProvisionalName → Type 0
    IsKnown acts p = principal acts (Provisional p) ≡ None → ⊥

    abbrev IsWithin : List RowAct → ProvisionalName → Type 0
    IsWithin rows p = p.order ≤ given_in p.half rows

    parted_none : (b : Bool) (s : Designation) (before : Option Designation) → before ≡ None → cond b (option_map (λ _. s) before) before ≡ None
    parted_none true s before is = ap (λ (o : Option Designation). option_map (λ _. s) o) is
    parted_none false s before is = is

    -- a designation that is known was given just now, or was known before
    given_or_known : (given p : ProvisionalName) (acts : List LinkAct) (G : Type 0) → (given ≡ p → G) → (IsKnown acts p → G) → IsKnown (Given (Provisional given) ∷ acts) p → G
    given_or_known given p acts G here before known =
        elim (cases_Bool (eq_by_cmp designation_cmp (Provisional given) (Provisional p))) [
          | inl it ↦ here (provisional_is given p (same (Provisional given) (Provisional p) it))
          | inr other ↦ before (λ unknown. known (ap (λ (b : Bool). cond b (Some (Provisional given)) (principal acts (Provisional p))) other ∙ unknown))
        ]

    -- one that is known is carried just now, or was known before
    carried_or_known : (half : HalfMonth) (given : ℕ) (p : ProvisionalName) (G : Type 0) → (p.half ≡ half → p.order ≤ given → G) → (orders : List ℕ) (acts : List LinkAct)
        → AllByRecursion (λ order. (1 ≤ order) × (order ≤ given)) orders → (IsKnown acts p → G) → IsKnown (with_all_given (with_orders half orders) acts) p → G
    carried_or_known half given p G here [] acts are before known = before known
    carried_or_known half given p G here (order ∷ orders) acts are before known =
        carried_or_known half given p G here orders (Given (Provisional (with_order half order)) ∷ acts) are.1
        (given_or_known (with_order half order) p acts G (λ is. here (sym (ap (λ (q : ProvisionalName). q.half) is)) (subst (λ (q : ProvisionalName). q.order ≤ given) is are.0.1)) before)
        known

    -- the order of a designation that is known is one that was given
    known_within : (past : List Deed) → AreGivenNext past → (p : ProvisionalName) → IsKnown (links_of past) p → IsWithin (row_acts_of past) p
    known_within [] next p known = absurd (known refl)
    known_within (Designated tracklets given discovery ∷ past) next p known =
        let take : Take = record { half = given.half; discovery = discovery } in
        let rows : List RowAct = row_acts_of past in
        given_or_known given p (links_of past) (IsWithin (Took take ∷ rows) p)
        (λ is.
        let order : given.order ≡ given_in given.half rows + 1 = ap (λ (q : ProvisionalName). q.order) next.0.0 in
        let count = given_in-here given take rows refl in
        subst (IsWithin (Took take ∷ rows)) is (omega (arith, order, count)))
        (λ known_before.
        let within = known_within past next.1 p known_before in
        let more = (grow p.half (Took take) rows next.0.1).1 in
        omega (arith, within, more)) known
    known_within (Opened half given carried ∷ past) next p known =
        let rows : List RowAct = row_acts_of past in
        let ranges = next.0.1 in
        carried_or_known half given p (IsWithin (OpenedRow half given ∷ rows) p)
        (λ is most. let count = opened_in-here p half given rows is in omega (arith, most, count)) carried (links_of past) ranges.orders
        (λ known_before.
        let within = known_within past next.1 p known_before in
        let more = (grow p.half (OpenedRow half given) rows (next.0.0, ranges.given_from, ranges.given_to)).1 in
        omega (arith, within, more)) known
    known_within (Identified q s ∷ past) next p known =
        known_within past next.1 p (λ unknown. known (ap (λ (o : Option Designation). cond (is_principal_of s o) (Some q) o) unknown))
    known_within (Separated s ∷ past) next p known =
        known_within past next.1 p (λ unknown. known (parted_none (eq_by_cmp designation_cmp (Provisional p) s) s (principal (links_of past) (Provisional p)) unknown))
    known_within (_ ∷ past) next p known = known_within past next.1 p known

    -- a designation whose order is above the count is unknown
    unknown_above : (past : List Deed) → AreGivenNext past → (p : ProvisionalName) → given_in p.half (row_acts_of past) < p.order → principal (links_of past) (Provisional p) ≡ None
    unknown_above past next p above = by (principal (links_of past) (Provisional p)) refl
      where
        by : (o : Option Designation) → principal (links_of past) (Provisional p) ≡ o → o ≡ None
        by None is = refl
        by (Some q) is = let within = known_within past next p (λ unknown. cc) in absurd (omega (arith, within, above))

    -- the next designation of a half-month is unknown
    pub next_unknown : (past : List Deed) → AreGivenNext past → (half : HalfMonth) → principal (links_of past) (Provisional (next_in half (row_acts_of past))) ≡ None
    next_unknown past next half = unknown_above past next (next_in half (row_acts_of past)) (omega arith)

    -- ---- designations that are carried

    abbrev AreUnknown : HalfMonth → List LinkAct → List ℕ → Type 0
    AreUnknown half acts orders = AllByRecursion (λ order. principal acts (Provisional (with_order half order)) ≡ None) orders

    -- nothing of a half-month that isn't begun is known
    unbegun_unknown : (past : List Deed) → AreGivenNext past → (half : HalfMonth) (given : ℕ) (orders : List ℕ) → IsFalse (is_begun half (row_acts_of past))
        → AllByRecursion (λ order. (1 ≤ order) × (order ≤ given)) orders → AreUnknown half (links_of past) orders
    unbegun_unknown past next half given [] unbegun are = tt
    unbegun_unknown past next half given (order ∷ orders) unbegun are =
        let nothing = none half (row_acts_of past) unbegun in
        (unknown_above past next (with_order half order) (omega (arith, nothing, are.0.0)), unbegun_unknown past next half given orders unbegun are.1)

    still_unknown : (half : HalfMonth) (order : ℕ) (orders : List ℕ) (acts : List LinkAct) → AllByRecursion (λ other. nat_eq order other ≡ false) orders → AreUnknown half acts orders
        → AreUnknown half (Given (Provisional (with_order half order)) ∷ acts) orders
    still_unknown half order [] acts apart are = tt
    still_unknown half order (other ∷ orders) acts apart are = (
      elim (cases_Bool (eq_by_cmp designation_cmp (Provisional (with_order half order)) (Provisional (with_order half other)))) [
        | inl it ↦
            let names = provisional_is (with_order half order) (with_order half other) (same (Provisional (with_order half order)) (Provisional (with_order half other)) it) in
            let is : order ≡ other = ap (λ (p : ProvisionalName). p.order) names in
            let differ : nat_eq order other ≡ false = apart.0 in
            absurd (grind (arith, nat_tests))
        | inr there ↦ ap (λ (b : Bool). cond b (Some (Provisional (with_order half order))) (principal acts (Provisional (with_order half other)))) there ∙ are.0
      ],
      still_unknown half order orders acts apart.1 are.1,
    )

    all_new : (half : HalfMonth) (orders : List ℕ) (acts : List LinkAct) → IsDistinct nat_eq orders → AreUnknown half acts orders → AreNew acts (with_orders half orders)
    unfolding IsDistinct
    all_new half [] acts distinct are = tt
    all_new half (order ∷ orders) acts distinct are =
        (are.0, all_new half orders (Given (Provisional (with_order half order)) ∷ acts) distinct.1 (still_unknown half order orders acts distinct.0 are.1))

    -- what an opening carries is new
    pub carried_new : (past : List Deed) → AreGivenNext past → (half : HalfMonth) (given : ℕ) (carried : List ℕ) → IsFalse (is_begun half (row_acts_of past))
        → IsOpening (record { half = half; given = given; carried = carried }) → AreNew (links_of past) (with_orders half carried)
    carried_new past next half given carried unbegun ranges =
        all_new half carried (links_of past) ranges.different (unbegun_unknown past next half given carried unbegun ranges.orders)
