-- A magnitude that is spelled is read, and one that is read is spelled.
use Rattle.std.proofs.Common.{◌≡◌, ℕ, ◌+◌, ◌/◌, ◌<◌, ◌≤◌, Bool, true, false, cond, eqb, leb, ◌&&◌, List, [], ◌∷◌, ◌++◌, length, get_or, Option, Some, None, Ok, refl, ap, subst, ◌∙◌, inl, inr, arith}
use Rattle.std.proofs.lemmas.Bool.{eqb-true, eqb-false, ne_eqb, and_parts, lt-ltb, le-ltb, le-leb, leb-true, cases_lt}
use Rattle.std.proofs.lemmas.Option.{cond_some}
use Rattle.ascii_text.specs.declared.digits.Radix.TheVariants.{Ten}
use Rattle.ascii_text.specs.Digits.{digits_text, decimals_text}
use Rattle.ascii_text.specs.Blanks.{blanks, are_blanks}
use Rattle.ascii_text.specs.Reading.{bind_some, digits_at, decimals_at}
use Rattle.obs_record.specs.declared.rule.RuleCode.TheVariants.{S9}
use Rattle.col80_format.specs.Magnitudes.{whole_text, SpellsMagnitude, IsMagnitudeText, whole_at, written_in, magnitude_from, magnitude_in}
use Rattle.col80_format.specs.LawsBelow.{Laws}
use Rattle.col80_format.specs.declared.magnitude.Written.{Written}
use Rattle.col80_format.proofs.Chains.{Says}

blank_no : (n : ℕ) (rest : List ℕ) → are_blanks (whole_text n ++ rest) ≡ false
unfolding are_blanks digits_text
blank_no n rest =
    elim (cases_lt n 10) [
      | inl small ↦ rw (lt-ltb n 10 small, ne_eqb (48 + n / 1) 32 (λ h. omega arith)) refl
      | inr large ↦ rw (le-ltb n 10 large, ne_eqb (48 + n / 10) 32 (λ h. omega arith)) refl
    ]

module _ (laws : Laws) where
  open laws use {texts.{digits_again, digits_takes, decimals_again, decimals_takes, are_blanks-blanks, are_blanks_takes, digit_run-blanks, no_point-blanks}}

  -- ---- the whole number

  whole_again : (n : ℕ) (rest : List ℕ) → n < 100 → whole_at (whole_text n ++ rest) ≡ Some (n, rest)
  unfolding whole_at digits_text
  whole_again n rest below =
      elim (cases_lt n 10) [
        | inl small ↦ rw (lt-ltb n 10 small) (digits_again Ten 1 n rest (omega arith))
        | inr large ↦ rw (le-ltb n 10 large, ne_eqb (48 + n / 10) 32 (λ h. omega arith), ne_eqb (48 + n / 10) 48 (λ h. omega arith)) (digits_again Ten 2 n rest (omega arith))
      ]

  whole_found : (b z : Bool) (first : ℕ) (rest : List ℕ) (x : ℕ × List ℕ) → eqb first 32 ≡ b → eqb first 48 ≡ z
      → cond b (digits_at Ten 1 rest) (cond z None (digits_at Ten 2 (first ∷ rest))) ≡ Some x → (x.0 < 100) × (first ∷ rest ≡ whole_text x.0 ++ x.1)
  unfolding digits_text
  whole_found true z first rest x blank zero_first e =
      let t = digits_takes Ten 1 rest x.0 x.1 e in
      let small : x.0 < 10 = omega (arith, t.1) in
      (omega arith, rw (lt-ltb x.0 10 small, eqb-true first 32 blank) (ap (λ (t : List ℕ). 32 ∷ t) t.0))
  whole_found false true first rest x blank zero_first e = absurd cc
  whole_found false false first rest x blank zero_first e =
      let t = digits_takes Ten 2 (first ∷ rest) x.0 x.1 e in
      let large : 10 ≤ x.0 = omega (arith, ap (λ (t : List ℕ). get_or t 0 0) t.0, eqb-false first 48 zero_first) in
      (omega (arith, t.1), rw (le-ltb x.0 10 large) t.0)

  whole_takes : (text : List ℕ) (x : ℕ × List ℕ) → whole_at text ≡ Some x → (x.0 < 100) × (text ≡ whole_text x.0 ++ x.1)
  unfolding whole_at
  whole_takes [] x e = absurd cc
  whole_takes (first ∷ rest) x e = whole_found (eqb first 32) (eqb first 48) first rest x refl refl e

  -- ---- the magnitude

  magnitude_again : (written : Written) (text : List ℕ) → SpellsMagnitude written text → written_in text ≡ Some written
  unfolding written_in
  magnitude_again written text s =
      let decimals = written.decimals in
      rw (
        s.spelling,
        whole_again written.whole (decimals_text decimals.count decimals.value ++ blanks s.space) s.whole,
        decimals_again decimals.count decimals.value (blanks s.space) s.decimals (digit_run-blanks s.space) (no_point-blanks s.space),
        le-leb decimals.count 2 s.few,
        are_blanks-blanks s.space,
      ) refl

  magnitude_takes : (text : List ℕ) (written : Written) → written_in text ≡ Some written → SpellsMagnitude written text
  unfolding written_in
  magnitude_takes text written e =
      let a = bind_some (whole_at text) _ written e in
      let b = bind_some (decimals_at a.0.1) _ written a.2 in
      let made : Written = record { whole = a.0.0; decimals = record { count = b.0.0.0; value = b.0.0.1 } } in
      let g = cond_some (leb b.0.0.0 2 && are_blanks b.0.1) made written b.2 in
      let tests = and_parts (leb b.0.0.0 2) (are_blanks b.0.1) g.0 in
      let front = whole_takes text a.0 a.1 in
      let decimals = decimals_takes a.0.1 b.0 b.1 in
      subst (λ (w : Written). SpellsMagnitude w text) g.1 (record {
        whole = front.0;
        few = leb-true b.0.0.0 2 tests.0;
        decimals = decimals.below;
        space = length b.0.1;
        spelling = front.1 ∙ ap (λ (t : List ℕ). whole_text a.0.0 ++ t) (decimals.text_is ∙ ap (λ (t : List ℕ). decimals_text b.0.0.0 b.0.0.1 ++ t) (are_blanks_takes b.0.1 tests.1));
      })

  magnitude_says_by : (text : List ℕ) (blank : Bool) (o : Option Written) → length text ≡ 5 → are_blanks text ≡ blank → written_in text ≡ o
      → Says S9 (λ x. IsMagnitudeText text x.0 x.1) (cond blank (Ok (None, 0)) (magnitude_from o))
  magnitude_says_by text true o long blank read = (are_blanks_takes text blank ∙ ap blanks long, refl)
  magnitude_says_by text false (Some written) long filled read = (written, magnitude_takes text written read, refl, refl)
  magnitude_says_by text false None long filled read = refl

  -- The magnitude that is read is that of the columns.
  pub magnitude_says : (text : List ℕ) → length text ≡ 5 → Says S9 (λ x. IsMagnitudeText text x.0 x.1) (magnitude_in text)
  unfolding magnitude_in
  magnitude_says text long = magnitude_says_by text (are_blanks text) (written_in text) long refl refl

  -- The magnitude of the columns is read.
  pub magnitude_found : (text : List ℕ) (mag : Option ℕ) (count : ℕ) → IsMagnitudeText text mag count → magnitude_in text ≡ Ok (mag, count)
  unfolding magnitude_in
  magnitude_found text None count h = rw (h.0, are_blanks-blanks 5, h.1) refl
  magnitude_found text (Some mag) count h =
      let filled : are_blanks text ≡ false = ap are_blanks h.1.spelling ∙ blank_no h.0.whole (decimals_text h.0.decimals.count h.0.decimals.value ++ blanks h.1.space) in
      rw (filled, magnitude_again h.0 text h.1, h.2, h.3) refl
