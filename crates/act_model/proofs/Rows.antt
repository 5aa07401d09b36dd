-- The designations and the numbers of a history follow one another.
use Rattle.std.proofs.Common.{◌≡◌, ℕ, zero, suc, ◌+◌, ◌≤◌, Bool, true, false, cond, List, [], ◌∷◌, ◌++◌, length, Some, None, refl, sym, ap, subst, ◌∙◌, inl, inr, arith}
use Rattle.std.specs.Prelude.{◌⊎◌, nat_eq}
use Rattle.std.specs.List.{AllByRecursion, Contains, IsDistinct}
use Rattle.std.specs.Ordering.{eq_by_cmp}
use Rattle.std.proofs.lemmas.Bool.Decides.{nat_tests}
use Rattle.packed_names.specs.declared.half_month.HalfMonth.{HalfMonth}
use Rattle.packed_names.specs.declared.provisional.Provisional.{Provisional}
use Rattle.packed_names.specs.declared.name.Designation.TheVariants.{Provisional as ByHalf}
use Rattle.packed_names.specs.Order.{half_cmp, designation_cmp}
use Rattle.packed_names.specs.Ranges.{limit_of}
use Rattle.designate_core.specs.Takes.{RowAct, opened_in, given_in, taken_in, next_in, designations_given, discovery_of}
use Rattle.designate_core.specs.Takes.RowAct.{Opened as OpenedRow, Took}
use Rattle.designate_core.specs.Unbroken.{orders_in, down_from, AreFitting, AreDifferent, UnbrokenRow, EachWithinLimit, EachGivenOnce, EachAboveOpening, NoneBeforeBegun, CountsGrow}
use Rattle.numbering_core.specs.Numbers.{IsUnbroken}
use Rattle.numbering_core.specs.Unbroken.{WithoutGap, NumbersOnce, DesignationsOnce}
use Rattle.act_model.specs.declared.deed.Deed.{Deed}
use Rattle.act_model.specs.declared.deed.Deed.TheVariants.{Designated, Opened}
use Rattle.act_model.specs.declared.entry.Entry.{Entry}
use Rattle.act_model.specs.Deeds.{deeds}
use Rattle.act_model.specs.Designations.{row_acts_of, with_order, with_orders}
use Rattle.act_model.specs.Numbers.{numbers_of}
use Rattle.act_model.specs.Unbroken.{given_by, carried_by, UnbrokenRows, UnbrokenNumbers}
use Rattle.act_model.proofs.Given.{AreSame, IsItself, AreGivenNext, half_itself, half_same, provisional_is, given_next}
use Rattle.act_model.proofs.InRange.{AreFirst, AreOpenings}

-- the designations that acts `designate` gave are those that objects took
given_by_takes : (past : List Deed) → AreGivenNext past → given_by past ≡ designations_given (row_acts_of past)
given_by_takes [] next = refl
given_by_takes (Designated tracklets given discovery ∷ past) next =
    ap (λ (p : Provisional). p ∷ given_by past) next.0.0 ∙ ap (λ (ps : List Provisional). next_in given.half (row_acts_of past) ∷ ps) (given_by_takes past next.1)
given_by_takes (_ ∷ past) next = given_by_takes past next.1

-- what came to the rows fits
rows_fit : (past : List Deed) → AreGivenNext past → AreFitting (row_acts_of past)
rows_fit [] next = tt
rows_fit (Designated tracklets given discovery ∷ past) next = (next.0.1, rows_fit past next.1)
rows_fit (Opened half given carried ∷ past) next = (let ranges = next.0.1 in ((next.0.0, ranges.given_from, ranges.given_to), rows_fit past next.1))
rows_fit (_ ∷ past) next = rows_fit past next.1

length_down : (from n : ℕ) → length (down_from from n) ≡ n
length_down from zero = refl
length_down from (suc n) = ap suc (length_down from n)

-- ---- lists of designations

first_or_later : (first p : Provisional) (others : List Provisional) → Contains (first ∷ others) p → (first ≡ p) ⊎ Contains others p
first_or_later first p others (zero, below, here) = inl here
first_or_later first p others (suc k, below, here) = inr (k, omega (arith, below), here)

later : (first p : Provisional) (others : List Provisional) → Contains others p → Contains (first ∷ others) p
later first p others (k, below, here) = (suc k, omega (arith, below), here)

either_of : (one other : List Provisional) (p : Provisional) → Contains (one ++ other) p → Contains one p ⊎ Contains other p
either_of [] other p among = inr among
either_of (first ∷ one) other p among =
    elim (first_or_later first p (one ++ other) among) [
      | inl is ↦ inl (0, omega arith, is)
      | inr behind ↦ elim (either_of one other p behind) [ inl before ↦ inl (later first p one before) | inr after ↦ inr after ]
    ]

-- two lists of different designations, of which none stands in both, are different together
joined_differ : (one other : List Provisional) → AreDifferent one → AreDifferent other → ((p : Provisional) → Contains one p → Contains other p → ⊥) → AreDifferent (one ++ other)
joined_differ [] other differ others apart = others
joined_differ (first ∷ one) other differ others apart = (
  λ among. elim (either_of one other first among) [ inl before ↦ differ.0 before | inr after ↦ apart first (0, omega arith, refl) after ],
  joined_differ one other differ.1 others (λ p before after. apart p (later first p one before) after),
)

-- ---- designations that are carried

-- what is carried is of the half-month, with an order from 1 to the count
carried_is : (half : HalfMonth) (given : ℕ) (orders : List ℕ) (p : Provisional) → AllByRecursion (λ order. (1 ≤ order) × (order ≤ given)) orders → Contains (with_orders half orders) p
    → (p.half ≡ half) × (1 ≤ p.order) × (p.order ≤ given)
carried_is half given [] p are among = absurd (omega (arith, among.1))
carried_is half given (order ∷ orders) p are among =
    elim (first_or_later (with_order half order) p (with_orders half orders) among) [
      | inl is ↦ subst (λ (q : Provisional). (q.half ≡ half) × (1 ≤ q.order) × (q.order ≤ given)) is (refl, are.0.0, are.0.1)
      | inr behind ↦ carried_is half given orders p are.1 behind
    ]

none_carried : (half : HalfMonth) (order : ℕ) (orders : List ℕ) → AllByRecursion (λ other. nat_eq order other ≡ false) orders → Contains (with_orders half orders) (with_order half order) → ⊥
none_carried half order [] apart among = omega (arith, among.1)
none_carried half order (other ∷ orders) apart among =
    elim (first_or_later (with_order half other) (with_order half order) (with_orders half orders) among) [
      | inl is ↦ let same : other ≡ order = ap (λ (q : Provisional). q.order) is in let differ : nat_eq order other ≡ false = apart.0 in absurd (grind (arith, nat_tests))
      | inr behind ↦ none_carried half order orders apart.1 behind
    ]

orders_differ : (half : HalfMonth) (orders : List ℕ) → IsDistinct nat_eq orders → AreDifferent (with_orders half orders)
unfolding IsDistinct
orders_differ half [] distinct = tt
orders_differ half (order ∷ orders) distinct = (none_carried half order orders distinct.0, orders_differ half orders distinct.1)

module _ (same : AreSame) (itself : IsItself) (none : NoneBeforeBegun) (grow : CountsGrow) where
  opened_here : (half : HalfMonth) (given : ℕ) (rows : List RowAct) (p : Provisional) → (p.half ≡ half) × (1 ≤ p.order) × (p.order ≤ given)
      → (1 ≤ p.order) × (p.order ≤ opened_in p.half (OpenedRow half given ∷ rows))
  opened_here half given rows p at =
      let here : eq_by_cmp half_cmp half p.half ≡ true = subst (λ (h : HalfMonth). eq_by_cmp half_cmp half h ≡ true) (sym at.0) (half_itself same itself half) in
      let count = ap (λ (b : Bool). cond b given (opened_in p.half rows)) here in
      (at.1, omega (arith, count, at.2))

  -- the order of what was carried is at most the opening count of its half-month
  carried_within : (past : List Deed) → AreGivenNext past → (p : Provisional) → Contains (carried_by past) p → (1 ≤ p.order) × (p.order ≤ opened_in p.half (row_acts_of past))
  carried_within [] next p among = absurd (omega (arith, among.1))
  carried_within (Designated tracklets given discovery ∷ past) next p among = carried_within past next.1 p among
  carried_within (Opened half given carried ∷ past) next p among =
      let ranges = next.0.1 in
      elim (either_of (with_orders half carried) (carried_by past) p among) [
        | inl now ↦ opened_here half given (row_acts_of past) p (carried_is half given carried p ranges.orders now)
        | inr before ↦
            let within = carried_within past next.1 p before in
            let more = (grow p.half (OpenedRow half given) (row_acts_of past) (next.0.0, ranges.given_from, ranges.given_to)).0 in
            (within.0, omega (arith, within.1, more))
      ]
  carried_within (_ ∷ past) next p among = carried_within past next.1 p among

  -- no designation was carried twice
  carried_differ : (past : List Deed) → AreGivenNext past → AreDifferent (carried_by past)
  carried_differ [] next = tt
  carried_differ (Designated tracklets given discovery ∷ past) next = carried_differ past next.1
  carried_differ (Opened half given carried ∷ past) next =
      let ranges = next.0.1 in
      joined_differ (with_orders half carried) (carried_by past) (orders_differ half carried ranges.different) (carried_differ past next.1)
      (λ p now before.
      let at = carried_is half given carried p ranges.orders now in
      let within = carried_within past next.1 p before in
      let nothing : given_in p.half (row_acts_of past) ≡ 0 = subst (λ (h : HalfMonth). given_in h (row_acts_of past) ≡ 0) (sym at.0) (none half (row_acts_of past) next.0.0) in
      omega (arith, nothing, within.0, within.1))
  carried_differ (_ ∷ past) next = carried_differ past next.1

  -- what holds of each designation's order holds of the orders in a half-month
  orders_most : (names : List Provisional) (most : HalfMonth → ℕ) → ((p : Provisional) → Contains names p → p.order ≤ most p.half) → (half : HalfMonth)
      → AllByRecursion (λ order. order ≤ most half) (orders_in half names)
  orders_most [] most each half = tt
  orders_most (p ∷ names) most each half = by (eq_by_cmp half_cmp p.half half) refl (orders_most names most (λ q among. each q (later p q names among)) half)
    where
      by : (b : Bool) → eq_by_cmp half_cmp p.half half ≡ b → AllByRecursion (λ order. order ≤ most half) (orders_in half names)
          → AllByRecursion (λ order. order ≤ most half) (cond b (p.order ∷ orders_in half names) (orders_in half names))
      by true here rest = (subst (λ (h : HalfMonth). p.order ≤ most h) (half_same same itself p.half half here) (each p (0, omega arith, refl)), rest)
      by false there rest = rest

  -- a designation that no object took has no discovery
  untaken : (p : Provisional) (rows : List RowAct) → (Contains (designations_given rows) p → ⊥) → discovery_of (ByHalf p) rows ≡ None
  untaken p [] never = refl
  untaken p (OpenedRow half given ∷ rows) never = untaken p rows never
  untaken p (Took take ∷ rows) never =
      by (eq_by_cmp designation_cmp (ByHalf p) (ByHalf (next_in take.half rows))) refl (untaken p rows (λ among. never (later (next_in take.half rows) p (designations_given rows) among)))
    where
      by : (b : Bool) → eq_by_cmp designation_cmp (ByHalf p) (ByHalf (next_in take.half rows)) ≡ b → discovery_of (ByHalf p) rows ≡ None → cond b (Some take.discovery) (discovery_of (ByHalf p) rows) ≡ None
      by true is earlier =
          let next : p ≡ next_in take.half rows = provisional_is p (next_in take.half rows) (same (ByHalf p) (ByHalf (next_in take.half rows)) is) in
          absurd (never (0, omega arith, sym next))
      by false is earlier = earlier

  module _ (in_order : UnbrokenRow) (within : EachWithinLimit) (once : EachGivenOnce) (above : EachAboveOpening) (firsts : AreFirst) (openings : AreOpenings) where
    rows_of : (rows : List RowAct) (given : List Provisional) → AreFitting rows → given ≡ designations_given rows → (half : HalfMonth)
        → orders_in half given ≡ down_from (opened_in half rows) (taken_in half rows)
    rows_of rows given fits is half = ap (orders_in half) is ∙ in_order half rows fits

    pub unbroken_rows : (history : List Entry) → UnbrokenRows history
    unbroken_rows history =
        let past = deeds history in
        let rows = row_acts_of past in
        let next = given_next firsts openings history in
        let fits = rows_fit past next in
        let given = given_by_takes past next in
        let orders : (half : HalfMonth) → orders_in half (given_by past) ≡ down_from (opened_in half rows) (taken_in half rows) = rows_of rows (given_by past) fits given in
        let count : (half : HalfMonth) → length (orders_in half (given_by past)) ≡ taken_in half rows = λ half. ap length (orders half) ∙ length_down (opened_in half rows) (taken_in half rows) in
        record {
          in_order = λ half. orders half ∙ ap (down_from (opened_in half rows)) (sym (count half));
          within = λ half. subst (λ (n : ℕ). opened_in half rows + n ≤ limit_of half) (sym (count half)) (within half rows fits);
          carried = λ half. orders_most (carried_by past) (λ h. opened_in h rows) (λ p among. (carried_within past next p among).1) half;
          once = joined_differ (given_by past) (carried_by past) (subst AreDifferent (sym given) (once rows fits)) (carried_differ past next)
              (λ p got was.
              let higher = above rows p fits (subst (λ (ps : List Provisional). Contains ps p) given got) in
              let most = carried_within past next p was in
              omega (arith, higher, most.1));
        }

    pub carried_undiscovered : (history : List Entry) (p : Provisional) → Contains (carried_by (deeds history)) p → discovery_of (ByHalf p) (row_acts_of (deeds history)) ≡ None
    carried_undiscovered history p was =
        let past = deeds history in
        let next = given_next firsts openings history in
        let most = carried_within past next p was in
        untaken p (row_acts_of past) (λ taken. let higher = above (row_acts_of past) p (rows_fit past next) taken in omega (arith, higher, most.1))

pub unbroken_numbers : WithoutGap → NumbersOnce → DesignationsOnce → (history : List Entry) → IsUnbroken (numbers_of (deeds history)) → UnbrokenNumbers history
unbroken_numbers gap once each history unbroken =
    let numbered = numbers_of (deeds history) in
    record {
      without_gap = gap numbered unbroken;
      numbers_once = once numbered unbroken;
      designations_once = each numbered unbroken;
    }
