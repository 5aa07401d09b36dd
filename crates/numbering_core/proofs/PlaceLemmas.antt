-- The places of numbers: each stands as many places after the first as it is above it.
use Rattle.std.proofs.Common.{◌≡◌, ◌≢◌, ℕ, zero, suc, ◌+◌, ◌-◌, ◌<◌, ◌≤◌, Bool, cond, List, [], ◌∷◌, length, get_or, Some, None, refl, ap, sym, subst, ◌∙◌, inl, inr, arith, eq-eqb}
use Rattle.std.specs.Prelude.{reverse, ◌⊎◌}
use Rattle.std.proofs.lemmas.Bool.{ne_eqb}
use Rattle.std.proofs.lemmas.List.{get_or-reverse, length-reverse, reverse-reverse}
use Rattle.numbering_core.specs.declared.numbering.Numbering.{Numbering}
use Rattle.numbering_core.specs.Numbers.{named, IsUnbroken}
use Rattle.numbering_core.specs.Unbroken.{numbers, first_number}

-- the numbers are the first, the one after it, and so on; the newest first
abbrev AreFrom : ℕ → List Numbering → Type 0
AreFrom first [] = Unit {0}
AreFrom first (newest ∷ past) = (newest.number.0 ≡ first + length past) × AreFrom first past

unbroken_from : (numbered : List Numbering) → IsUnbroken numbered → AreFrom (first_number (numbers numbered)) numbered
unbroken_from [] row = tt
unbroken_from (only ∷ []) row = (omega arith, tt)
unbroken_from (newest ∷ last ∷ past) row = let rest = unbroken_from (last ∷ past) row.3 in (omega (arith, row.1, rest.0), rest)

here : (n : ℕ) (newest : Numbering) (past : List Numbering) → newest.number.0 ≡ n → named (newest ∷ past) n ≡ Some newest.designation
here n newest past same = ap (λ (b : Bool). cond b (Some newest.designation) (named past n)) (eq-eqb newest.number.0 n same)

elsewhere : (n : ℕ) (newest : Numbering) (past : List Numbering) → newest.number.0 ≢ n → named (newest ∷ past) n ≡ named past n
elsewhere n newest past other = ap (λ (b : Bool). cond b (Some newest.designation) (named past n)) (ne_eqb newest.number.0 n other)

-- this many places before the newest
number_back : (first : ℕ) (numbered : List Numbering) (back : ℕ) (d : Numbering) → AreFrom first numbered → back < length numbered → (get_or numbered back d).number.0 + back + 1 ≡ first + length numbered
number_back first [] back d from within = absurd (omega arith)
number_back first (newest ∷ past) zero d from within = omega (arith, from.0)
number_back first (newest ∷ past) (suc back) d from within = let rest = number_back first past back d from.1 (omega arith) in omega (arith, rest)

named_back : (first : ℕ) (numbered : List Numbering) (back n : ℕ) (d : Numbering) → AreFrom first numbered → back < length numbered → n + back + 1 ≡ first + length numbered
    → named numbered n ≡ Some (get_or numbered back d).designation
named_back first [] back n d from within is = absurd (omega arith)
named_back first (newest ∷ past) zero n d from within is = here n newest past (omega (arith, from.0))
named_back first (newest ∷ past) (suc back) n d from within is =
    elsewhere n newest past (λ same. omega (arith, from.0, same)) ∙ named_back first past back n d from.1 (omega arith) (omega arith)

named_outside : (first : ℕ) (numbered : List Numbering) (n : ℕ) → AreFrom first numbered → (n < first) ⊎ (first + length numbered ≤ n) → named numbered n ≡ None
named_outside first [] n from outside = refl
named_outside first (newest ∷ past) n from (inl low) = elsewhere n newest past (λ same. omega (arith, from.0, same)) ∙ named_outside first past n from.1 (inl low)
named_outside first (newest ∷ past) n from (inr high) = elsewhere n newest past (λ same. omega (arith, from.0, same)) ∙ named_outside first past n from.1 (inr (omega arith))

module _ (items : List Numbering) (row : IsUnbroken (reverse items)) (some : 0 < length items) where
  -- the item at a place, in the list that has the newest first
  turned : (place : ℕ) (d : Numbering) → place < length items → get_or items place d ≡ get_or (reverse items) (length items - 1 - place) d
  turned place d within =
      ap (λ (xs : List Numbering). get_or xs place d) (sym (reverse-reverse items))
      ∙ get_or-reverse (reverse items) place d (subst (λ (n : ℕ). place < n) (sym (length-reverse items)) within)
      ∙ ap (λ (n : ℕ). get_or (reverse items) (n - 1 - place) d) (length-reverse items)

  first_is : (d : Numbering) → (get_or items 0 d).number.0 ≡ first_number (numbers (reverse items))
  first_is d =
      let lengths = length-reverse items in
      let at = number_back (first_number (numbers (reverse items))) (reverse items) (length items - 1 - 0) d (unbroken_from (reverse items) row) (omega arith) in
      let number = ap (λ (x : Numbering). x.number.0) (turned 0 d some) in
      omega (arith, at, number, lengths)

  named_at : (place n : ℕ) (d e : Numbering) → place < length items → n ≡ (get_or items 0 e).number.0 + place → named (reverse items) n ≡ Some (get_or items place d).designation
  named_at place n d e within is =
      let lengths = length-reverse items in
      let first = first_is e in
      named_back (first_number (numbers (reverse items))) (reverse items) (length items - 1 - place) n d (unbroken_from (reverse items) row) (omega arith) (omega (arith, is, first, lengths))
      ∙ ap (λ (x : Numbering). Some x.designation) (sym (turned place d within))

  none_named : (n : ℕ) (e : Numbering) → (n < (get_or items 0 e).number.0) ⊎ ((get_or items 0 e).number.0 + length items ≤ n) → named (reverse items) n ≡ None
  none_named n e outside =
      let first = first_is e in
      let lengths = length-reverse items in
      named_outside (first_number (numbers (reverse items))) (reverse items) n (unbroken_from (reverse items) row)
      (subst (λ (m : ℕ). (n < m) ⊎ (m + length (reverse items) ≤ n)) first (subst (λ (l : ℕ). (n < (get_or items 0 e).number.0) ⊎ ((get_or items 0 e).number.0 + l ≤ n)) (sym lengths) outside))

  pub none_below : (n : ℕ) (e : Numbering) → n < (get_or items 0 e).number.0 → named (reverse items) n ≡ None
  none_below n e low = none_named n e (inl low)

  pub none_above : (n : ℕ) (e : Numbering) → (get_or items 0 e).number.0 ≤ n → length items ≤ n - (get_or items 0 e).number.0 → named (reverse items) n ≡ None
  none_above n e from high = none_named n e (inr (omega (arith, from, high)))

  pub named_there : (n : ℕ) (e : Numbering) → (get_or items 0 e).number.0 ≤ n → n - (get_or items 0 e).number.0 < length items
      → named (reverse items) n ≡ Some (get_or items (n - (get_or items 0 e).number.0) e).designation
  named_there n e from within = named_at (n - (get_or items 0 e).number.0) n e e within (omega (arith, from))
