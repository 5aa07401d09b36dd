-- Orders and counts of what came to the rows.
use Rattle.std.proofs.Common.{◌≡◌, ℕ, zero, suc, ◌+◌, ◌<◌, ◌≤◌, Bool, true, false, cond, ◌||◌, List, [], ◌∷◌, map, Some, IsSome, refl, ap, sym, subst, ◌∙◌, inl, inr, arith}
use Rattle.std.specs.Prelude.{IsFalse, nat_lt}
use Rattle.std.specs.List.{Contains}
use Rattle.std.specs.Ordering.{eq_by_cmp}
use Rattle.std.proofs.lemmas.Bool.{cases_Bool, false≢true, lt-ltb}
use Rattle.packed_names.specs.declared.half_month.HalfMonth.{HalfMonth}
use Rattle.packed_names.specs.declared.provisional.Provisional.{Provisional}
use Rattle.packed_names.specs.declared.name.Designation.{Designation}
use Rattle.packed_names.specs.declared.name.Designation.TheVariants as designations
use Rattle.packed_names.specs.Order.{half_cmp, designation_cmp}
use Rattle.packed_names.specs.Laws.{OrderLaws}
use Rattle.packed_names.specs.Ranges.{limit_of}
use Rattle.designate_core.specs.Takes.{Take, RowAct, opened_in, taken_in, given_in, is_begun, next_in, designations_given, discovery_of}
use Rattle.designate_core.specs.Takes.RowAct.{Opened, Took}
use Rattle.designate_core.specs.Unbroken.{orders_in, down_from, FitsRows, AreFitting, AreDifferent}

-- ---- one act more

pub opened_in-yes : (half opened : HalfMonth) (given : ℕ) (past : List RowAct) → eq_by_cmp half_cmp opened half ≡ true → opened_in half (Opened opened given ∷ past) ≡ given
opened_in-yes half opened given past same = ap (λ (b : Bool). cond b given (opened_in half past)) same

pub opened_in-no : (half opened : HalfMonth) (given : ℕ) (past : List RowAct) → eq_by_cmp half_cmp opened half ≡ false → opened_in half (Opened opened given ∷ past) ≡ opened_in half past
opened_in-no half opened given past apart = ap (λ (b : Bool). cond b given (opened_in half past)) apart

pub taken_in-yes : (half : HalfMonth) (take : Take) (past : List RowAct) → eq_by_cmp half_cmp take.half half ≡ true → taken_in half (Took take ∷ past) ≡ taken_in half past + 1
taken_in-yes half take past same = ap (λ (b : Bool). cond b (taken_in half past + 1) (taken_in half past)) same

pub taken_in-no : (half : HalfMonth) (take : Take) (past : List RowAct) → eq_by_cmp half_cmp take.half half ≡ false → taken_in half (Took take ∷ past) ≡ taken_in half past
taken_in-no half take past apart = ap (λ (b : Bool). cond b (taken_in half past + 1) (taken_in half past)) apart

orders_in-same : (half : HalfMonth) (given : Provisional) (past : List Provisional) → eq_by_cmp half_cmp given.half half ≡ true → orders_in half (given ∷ past) ≡ given.order ∷ orders_in half past
orders_in-same half given past same = ap (λ (b : Bool). cond b (given.order ∷ orders_in half past) (orders_in half past)) same

orders_in-apart : (half : HalfMonth) (given : Provisional) (past : List Provisional) → eq_by_cmp half_cmp given.half half ≡ false → orders_in half (given ∷ past) ≡ orders_in half past
orders_in-apart half given past apart = ap (λ (b : Bool). cond b (given.order ∷ orders_in half past) (orders_in half past)) apart

-- ---- half-months that are begun

-- in a half-month that isn't begun no designation was given
pub none_before : (half : HalfMonth) (acts : List RowAct) → IsFalse (is_begun half acts) → given_in half acts ≡ 0
none_before half [] unbegun = refl
none_before half (Opened opened given ∷ past) unbegun = by (eq_by_cmp half_cmp opened half) unbegun (none_before half past)
  where
    by : (b : Bool) → IsFalse (b || is_begun half past) → (IsFalse (is_begun half past) → given_in half past ≡ 0) → cond b given (opened_in half past) + taken_in half past ≡ 0
    by true unbegun rest = absurd (false≢true (sym unbegun))
    by false unbegun rest = rest unbegun
none_before half (Took take ∷ past) unbegun = by (eq_by_cmp half_cmp take.half half) unbegun (none_before half past)
  where
    by : (b : Bool) → IsFalse (b || is_begun half past) → (IsFalse (is_begun half past) → given_in half past ≡ 0) → opened_in half past + cond b (taken_in half past + 1) (taken_in half past) ≡ 0
    by true unbegun rest = absurd (false≢true (sym unbegun))
    by false unbegun rest = rest unbegun

-- a half-month is begun exactly where its count is above 0
pub begun_by_count : (half : HalfMonth) (acts : List RowAct) → AreFitting acts → is_begun half acts ≡ nat_lt 0 (given_in half acts)
begun_by_count half [] fits = refl
begun_by_count half (Opened opened given ∷ past) fits = by (eq_by_cmp half_cmp opened half) fits.0.1 (begun_by_count half past fits.1)
  where
    by : (b : Bool) → 1 ≤ given → is_begun half past ≡ nat_lt 0 (given_in half past) → (b || is_begun half past) ≡ nat_lt 0 (cond b given (opened_in half past) + taken_in half past)
    by true from rest = sym (lt-ltb 0 (given + taken_in half past) (omega (arith, from)))
    by false from rest = rest
begun_by_count half (Took take ∷ past) fits = by (eq_by_cmp half_cmp take.half half) (begun_by_count half past fits.1)
  where
    by : (b : Bool) → is_begun half past ≡ nat_lt 0 (given_in half past) → (b || is_begun half past) ≡ nat_lt 0 (opened_in half past + cond b (taken_in half past + 1) (taken_in half past))
    by true rest = sym (lt-ltb 0 (opened_in half past + (taken_in half past + 1)) (omega arith))
    by false rest = rest

-- ---- orders and limits

-- nothing was given in a half-month before it is opened
none_taken : (half : HalfMonth) (given : ℕ) (past : List RowAct) → FitsRows past (Opened half given) → taken_in half past ≡ 0
none_taken half given past fits = let none = none_before half past fits.0 in omega (arith, none)

module _ (orders : OrderLaws) where
  pub unbroken : (half : HalfMonth) (acts : List RowAct) → AreFitting acts → orders_in half (designations_given acts) ≡ down_from (opened_in half acts) (taken_in half acts)
  unbroken half [] fits = refl
  unbroken half (Opened opened given ∷ past) fits =
      let rest = unbroken half past fits.1 in
      elim (cases_Bool (eq_by_cmp half_cmp opened half)) [
        | inl same ↦
            let none : taken_in half past ≡ 0 = subst (λ (h : HalfMonth). taken_in h past ≡ 0) ((orders.halves opened half).0 same) (none_taken opened given past fits.0) in
            rest
            ∙ ap (down_from (opened_in half past)) none
            ∙ sym (ap (down_from (opened_in half (Opened opened given ∷ past))) none)
        | inr apart ↦ rest ∙ ap (λ (o : ℕ). down_from o (taken_in half past)) (sym (opened_in-no half opened given past apart))
      ]
  unbroken half (Took take ∷ past) fits =
      let rest = unbroken half past fits.1 in
      elim (cases_Bool (eq_by_cmp half_cmp take.half half)) [
        | inl same ↦
            let own : given_in take.half past ≡ given_in half past = ap (λ (h : HalfMonth). given_in h past) ((orders.halves take.half half).0 same) in
            let order : given_in take.half past + 1 ≡ opened_in half past + suc (taken_in half past) = omega (arith, own) in
            let count = taken_in-yes half take past same in
            let one_more : taken_in half (Took take ∷ past) ≡ suc (taken_in half past) = omega (arith, count) in
            orders_in-same half (next_in take.half past) (designations_given past) same
            ∙ ap (λ (n : ℕ). n ∷ orders_in half (designations_given past)) order
            ∙ ap (λ (ns : List ℕ). (opened_in half past + suc (taken_in half past)) ∷ ns) rest
            ∙ ap (down_from (opened_in half past)) (sym one_more)
        | inr apart ↦
            orders_in-apart half (next_in take.half past) (designations_given past) apart ∙ rest ∙ ap (down_from (opened_in half past)) (sym (taken_in-no half take past apart))
      ]

  -- where a half-month is opened, its opening count is how many were given in it
  pub given_in-opened : (half opened : HalfMonth) (given : ℕ) (past : List RowAct) → FitsRows past (Opened opened given)
      → given_in half (Opened opened given ∷ past) ≡ cond (eq_by_cmp half_cmp opened half) given (given_in half past)
  given_in-opened half opened given past fits =
      elim (cases_Bool (eq_by_cmp half_cmp opened half)) [
        | inl same ↦
            let none : taken_in half past ≡ 0 = subst (λ (h : HalfMonth). taken_in h past ≡ 0) ((orders.halves opened half).0 same) (none_taken opened given past fits) in
            let count = opened_in-yes half opened given past same in
            let all : given_in half (Opened opened given ∷ past) ≡ given = omega (arith, none, count) in
            all ∙ sym (ap (λ (b : Bool). cond b given (given_in half past)) same)
        | inr apart ↦
            ap (λ (o : ℕ). o + taken_in half past) (opened_in-no half opened given past apart)
            ∙ sym (ap (λ (b : Bool). cond b given (given_in half past)) apart)
      ]

  pub within : (half : HalfMonth) (acts : List RowAct) → AreFitting acts → given_in half acts ≤ limit_of half
  within half [] fits = omega arith
  within half (Opened opened given ∷ past) fits =
      elim (cases_Bool (eq_by_cmp half_cmp opened half)) [
        | inl same ↦
            let none = none_taken opened given past fits.0 in
            let most : given + taken_in half past ≤ limit_of half =
            subst (λ (h : HalfMonth). given + taken_in h past ≤ limit_of h) ((orders.halves opened half).0 same) (omega (arith, none, fits.0.2)) in
            let count = opened_in-yes half opened given past same in
            omega (arith, count, most)
        | inr apart ↦ let count = opened_in-no half opened given past apart in let rest = within half past fits.1 in omega (arith, count, rest)
      ]
  within half (Took take ∷ past) fits =
      elim (cases_Bool (eq_by_cmp half_cmp take.half half)) [
        | inl same ↦
            let count = taken_in-yes half take past same in
            let most : given_in half past < limit_of half = subst (λ (h : HalfMonth). given_in h past < limit_of h) ((orders.halves take.half half).0 same) fits.0 in
            omega (arith, count, most)
        | inr apart ↦ let count = taken_in-no half take past apart in let rest = within half past fits.1 in omega (arith, count, rest)
      ]

  -- an act that fits lets no count fall
  pub counts_grow : (half : HalfMonth) (act : RowAct) (past : List RowAct) → FitsRows past act
      → (opened_in half past ≤ opened_in half (act ∷ past)) × (given_in half past ≤ given_in half (act ∷ past))
  counts_grow half (Opened opened given) past fits =
      elim (cases_Bool (eq_by_cmp half_cmp opened half)) [
        | inl same ↦
            let none : given_in half past ≡ 0 = subst (λ (h : HalfMonth). given_in h past ≡ 0) ((orders.halves opened half).0 same) (none_before opened past fits.0) in
            (omega (arith, none), omega (arith, none))
        | inr apart ↦ let count = opened_in-no half opened given past apart in (omega (arith, count), omega (arith, count))
      ]
  counts_grow half (Took take) past fits =
      elim (cases_Bool (eq_by_cmp half_cmp take.half half)) [
        | inl same ↦ let count = taken_in-yes half take past same in (omega arith, omega (arith, count))
        | inr apart ↦ let count = taken_in-no half take past apart in (omega arith, omega (arith, count))
      ]

  -- the order of a designation that an object took is at most the count of its half-month
  order_within : (acts : List RowAct) (given : Provisional) → AreFitting acts → Contains (designations_given acts) given → given.order ≤ given_in given.half acts
  order_within [] given fits among = absurd (omega (arith, among.1))
  order_within (Opened opened count ∷ past) given fits among =
      let rest = order_within past given fits.1 among in let more = (counts_grow given.half (Opened opened count) past fits.0).1 in omega (arith, rest, more)
  order_within (Took take ∷ past) given fits (zero, below, here) =
      let P : Provisional → Type 0 = λ p. p.order ≤ given_in p.half (Took take ∷ past) in
      let count = taken_in-yes take.half take past ((orders.halves take.half take.half).1 refl) in
      subst P here (omega (arith, count))
  order_within (Took take ∷ past) given fits (suc k, below, here) =
      let rest = order_within past given fits.1 (k, omega (arith, below), here) in let more = (counts_grow given.half (Took take) past fits.0).1 in omega (arith, rest, more)

  -- and it is above the opening count
  pub above : (acts : List RowAct) (given : Provisional) → AreFitting acts → Contains (designations_given acts) given → opened_in given.half acts < given.order
  above [] given fits among = absurd (omega (arith, among.1))
  above (Opened opened count ∷ past) given fits among =
      let rest = above past given fits.1 among in
      elim (cases_Bool (eq_by_cmp half_cmp opened given.half)) [
        | inl same ↦
            let none : given_in given.half past ≡ 0 = subst (λ (h : HalfMonth). given_in h past ≡ 0) ((orders.halves opened given.half).0 same) (none_before opened past fits.0.0) in
            let most = order_within past given fits.1 among in
            absurd (omega (arith, none, most, rest))
        | inr apart ↦ let own = opened_in-no given.half opened count past apart in omega (arith, own, rest)
      ]
  above (Took take ∷ past) given fits (zero, below, here) =
      let P : Provisional → Type 0 = λ p. opened_in p.half past < p.order in
      subst P here (omega arith)
  above (Took take ∷ past) given fits (suc k, below, here) = above past given fits.1 (k, omega (arith, below), here)

  pub different : (acts : List RowAct) → AreFitting acts → AreDifferent (designations_given acts)
  different [] fits = tt
  different (Opened opened given ∷ past) fits = different past fits.1
  different (Took take ∷ past) fits = (λ among. let most = order_within past (next_in take.half past) fits.1 among in omega (arith, most), different past fits.1)

  -- a designation is found exactly where an object took it
  pub found : (d : Designation) (acts : List RowAct) → IsSome (discovery_of d acts) → Contains (map designations.Provisional (designations_given acts)) d
  found d [] some = cc
  found d (Opened opened given ∷ past) some = found d past some
  found d (Took take ∷ past) some =
      let newest : Designation = designations.Provisional (next_in take.half past) in
      elim (cases_Bool (eq_by_cmp designation_cmp d newest)) [
        | inl same ↦ (0, omega arith, sym ((orders.designations d (designations.Provisional (next_in take.half past))).0 same))
        | inr apart ↦
            let step = ap (λ (b : Bool). cond b (Some take.discovery) (discovery_of d past)) apart in
            let rest = found d past (subst IsSome step some) in
            (suc rest.0, omega (arith, rest.1), rest.2)
      ]

  pub contained : (d : Designation) (acts : List RowAct) → Contains (map designations.Provisional (designations_given acts)) d → IsSome (discovery_of d acts)
  contained d [] among = absurd (omega (arith, among.1))
  contained d (Opened opened given ∷ past) among = contained d past among
  contained d (Took take ∷ past) (zero, below, here) =
      let given : Provisional = next_in take.half past in
      let found_at : Designation → Bool = λ e. eq_by_cmp designation_cmp e (designations.Provisional given) in
      let same : found_at d ≡ true = subst (λ (e : Designation). found_at e ≡ true) here ((orders.designations (designations.Provisional given) (designations.Provisional given)).1 refl) in
      subst IsSome (sym (ap (λ (b : Bool). cond b (Some take.discovery) (discovery_of d past)) same)) refl
  contained d (Took take ∷ past) (suc k, below, here) =
      let newest : Designation = designations.Provisional (next_in take.half past) in
      let rest = contained d past (k, omega (arith, below), here) in
      elim (cases_Bool (eq_by_cmp designation_cmp d newest)) [
        | inl same ↦ subst IsSome (sym (ap (λ (b : Bool). cond b (Some take.discovery) (discovery_of d past)) same)) refl
        | inr apart ↦ subst IsSome (sym (ap (λ (b : Bool). cond b (Some take.discovery) (discovery_of d past)) apart)) rest
      ]
