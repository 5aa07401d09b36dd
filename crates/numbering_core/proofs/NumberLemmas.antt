-- Numbers that run without a gap.
use Rattle.std.proofs.Common.{◌≡◌, ℕ, zero, suc, ◌+◌, ◌<◌, ◌==◌, Bool, true, false, cond, List, [], ◌∷◌, length, Some, None, refl, ap, sym, subst, ◌∙◌, inl, inr, arith, eq-eqb}
use Rattle.std.specs.List.{Contains}
use Rattle.std.specs.Ordering.{eq_by_cmp}
use Rattle.std.proofs.lemmas.Bool.{cases_Bool, eqb-true, ne_eqb}
use Rattle.packed_names.specs.declared.name.Designation.{Designation}
use Rattle.packed_names.specs.declared.number.Number.{Number}
use Rattle.packed_names.specs.Order.{designation_cmp}
use Rattle.packed_names.specs.Laws.{OrderLaws}
use Rattle.packed_names.specs.Ranges.{IsNumber}
use Rattle.numbering_core.specs.declared.numbering.Numbering.{Numbering}
use Rattle.numbering_core.specs.Numbers.{number_of, named, IsUnbroken}
use Rattle.numbering_core.specs.Unbroken.{numbers, designations, first_number, down_to, AreDifferent}

number-here : (d : Designation) (newest : Numbering) (past : List Numbering) → eq_by_cmp designation_cmp newest.designation d ≡ true → number_of (newest ∷ past) d ≡ Some newest.number
number-here d newest past same = ap (λ (b : Bool). cond b (Some newest.number) (number_of past d)) same

number-past : (d : Designation) (newest : Numbering) (past : List Numbering) → eq_by_cmp designation_cmp newest.designation d ≡ false → number_of (newest ∷ past) d ≡ number_of past d
number-past d newest past apart = ap (λ (b : Bool). cond b (Some newest.number) (number_of past d)) apart

named-here : (n : ℕ) (newest : Numbering) (past : List Numbering) → (newest.number.0 == n) ≡ true → named (newest ∷ past) n ≡ Some newest.designation
named-here n newest past same = ap (λ (b : Bool). cond b (Some newest.designation) (named past n)) same

named-past : (n : ℕ) (newest : Numbering) (past : List Numbering) → (newest.number.0 == n) ≡ false → named (newest ∷ past) n ≡ named past n
named-past n newest past apart = ap (λ (b : Bool). cond b (Some newest.designation) (named past n)) apart

some_same : {A : Type 0} (x y : A) → Some x ≡ Some y → x ≡ y
some_same x y e = cc

-- a number that was given before is below the newest
below : (newest : Numbering) (past : List Numbering) → IsUnbroken (newest ∷ past) → (n : ℕ) → Contains (numbers past) n → n < newest.number.0
below newest [] row n among = absurd (omega (arith, among.1))
below newest (last ∷ past) row n (zero, within, here) = omega (arith, row.1, here)
below newest (last ∷ past) row n (suc k, within, here) =
    let rest = below last past row.3 n (k, omega (arith, within), here) in omega (arith, row.1, rest)

numbered_among : (n : Number) (d : Designation) (past : List Numbering) → number_of past d ≡ Some n → Contains (numbers past) n.0
numbered_among n d [] some = absurd (cc)
numbered_among n d (newest ∷ past) some =
    elim (cases_Bool (eq_by_cmp designation_cmp newest.designation d)) [
      | inl same ↦ (0, omega arith, ap (λ (m : Number). m.0) (some_same newest.number n (sym (number-here d newest past same) ∙ some)))
      | inr apart ↦ let rest = numbered_among n d past (sym (number-past d newest past apart) ∙ some) in (suc rest.0, omega (arith, rest.1), rest.2)
    ]

module _ (orders : OrderLaws) where
  -- the designation with a number is the one that the number was given to
  pub named_from : (numbered : List Numbering) → IsUnbroken numbered → (n : Number) (d : Designation) → number_of numbered d ≡ Some n → named numbered n.0 ≡ Some d
  named_from [] row n d some = absurd (cc)
  named_from (newest ∷ past) row n d some =
      elim (cases_Bool (eq_by_cmp designation_cmp newest.designation d)) [
        | inl same ↦
            let number : newest.number ≡ n = some_same newest.number n (sym (number-here d newest past same) ∙ some) in
            named-here n.0 newest past (eq-eqb newest.number.0 n.0 (ap (λ (m : Number). m.0) number)) ∙ ap Some ((orders.designations newest.designation d).0 same)
        | inr apart ↦
            let before : number_of past d ≡ Some n = sym (number-past d newest past apart) ∙ some in
            let less = below newest past row n.0 (numbered_among n d past before) in
            named-past n.0 newest past (ne_eqb newest.number.0 n.0 (λ e. omega (arith, e, less))) ∙ named_from past row.3 n d before
      ]

  pub numbered_from : (numbered : List Numbering) → IsUnbroken numbered → (n : Number) (d : Designation) → named numbered n.0 ≡ Some d → number_of numbered d ≡ Some n
  numbered_from [] row n d some = absurd (cc)
  numbered_from (newest ∷ past) row n d some =
      elim (cases_Bool (newest.number.0 == n.0)) [
        | inl same ↦
            let designation : newest.designation ≡ d = some_same newest.designation d (sym (named-here n.0 newest past same) ∙ some) in
            let number : newest.number ≡ n = ap (λ (k : ℕ). let m : Number = record { 0 = k } in m) (eqb-true newest.number.0 n.0 same) in
            number-here d newest past (subst (λ (e : Designation). eq_by_cmp designation_cmp newest.designation e ≡ true) designation ((orders.designations newest.designation newest.designation).1 refl)) ∙ ap Some number
        | inr apart ↦
            let before : named past n.0 ≡ Some d = sym (named-past n.0 newest past apart) ∙ some in
            let rest = numbered_from past row.3 n d before in
            elim (cases_Bool (eq_by_cmp designation_cmp newest.designation d)) [
              | inl twice ↦
                  let none : number_of past d ≡ None = subst (λ (e : Designation). number_of past e ≡ None) ((orders.designations newest.designation d).0 twice) row.2 in
                  absurd (cc)
              | inr other ↦ number-past d newest past other ∙ rest
            ]
      ]

  pub in_range : (numbered : List Numbering) → IsUnbroken numbered → (n : Number) (d : Designation) → number_of numbered d ≡ Some n → IsNumber n.0
  in_range [] row n d some = absurd (cc)
  in_range (newest ∷ past) row n d some =
      elim (cases_Bool (eq_by_cmp designation_cmp newest.designation d)) [
        | inl same ↦ subst (λ (m : Number). IsNumber m.0) (some_same newest.number n (sym (number-here d newest past same) ∙ some)) row.0
        | inr apart ↦ in_range past row.3 n d (sym (number-past d newest past apart) ∙ some)
      ]

  first_same : (x y : ℕ) (xs ys : List ℕ) → x ∷ xs ≡ y ∷ ys → x ≡ y
  first_same x y xs ys e = cc

  pub without_gap : (numbered : List Numbering) → IsUnbroken numbered → numbers numbered ≡ down_to (first_number (numbers numbered)) (length numbered)
  without_gap [] row = refl
  without_gap (only ∷ []) row = let e : only.number.0 ≡ only.number.0 + 0 = omega arith in ap (λ (n : ℕ). n ∷ []) e
  without_gap (newest ∷ last ∷ past) row =
      let rest = without_gap (last ∷ past) row.3 in
      let first : ℕ = first_number (numbers (last ∷ past)) in
      let last_is : last.number.0 ≡ first + length past = first_same last.number.0 (first + length past) (numbers past) (down_to first (length past)) rest in
      let newest_is : newest.number.0 ≡ first + suc (length past) = omega (arith, row.1, last_is) in
      ap (λ (n : ℕ). n ∷ numbers (last ∷ past)) newest_is ∙ ap (λ (ns : List ℕ). (first + suc (length past)) ∷ ns) rest

  pub numbers_once : (numbered : List Numbering) → IsUnbroken numbered → AreDifferent (numbers numbered)
  numbers_once [] row = tt
  numbers_once (newest ∷ past) row = (λ again. let less = below newest past row newest.number.0 again in omega (arith, less), numbers_once past row.3)

  has_number : (d : Designation) (past : List Numbering) → Contains (designations past) d → number_of past d ≡ None → ⊥
  has_number d [] among none = omega (arith, among.1)
  has_number d (newest ∷ past) (zero, within, here) none =
      let same : eq_by_cmp designation_cmp newest.designation d ≡ true =
      subst (λ (e : Designation). eq_by_cmp designation_cmp newest.designation e ≡ true) here ((orders.designations newest.designation newest.designation).1 refl) in
      let some = number-here d newest past same in
      cc
  has_number d (newest ∷ past) (suc k, within, here) none =
      elim (cases_Bool (eq_by_cmp designation_cmp newest.designation d)) [
        | inl same ↦ let some = number-here d newest past same in cc
        | inr apart ↦ has_number d past (k, omega (arith, within), here) (sym (number-past d newest past apart) ∙ none)
      ]

  pub designations_once : (numbered : List Numbering) → IsUnbroken numbered → AreDifferent (designations numbered)
  designations_once [] row = tt
  designations_once (newest ∷ past) row = (λ again. has_number newest.designation past again row.2, designations_once past row.3)
