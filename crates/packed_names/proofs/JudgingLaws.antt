-- What the three answers of a reader say of the text.
use Rattle.std.proofs.Common.{◌≡◌, ℕ, ◌≤◌, Bool, true, false, cond, List, Option, Result, Ok, Err, refl, sym, ◌∙◌, arith, inl, inr}
use Rattle.std.specs.Prelude.{◌↔◌}
use Rattle.std.specs.Bool.{Decides}
use Rattle.std.proofs.lemmas.Bool.{false_from_ne_true}
use Rattle.std.proofs.lemmas.Bool.Decides.{nat_tests, Decides-and, Decides-like}
use Rattle.ascii_text.specs.Judged.{Answers, IsReader}
use Rattle.ascii_text.specs.Answering.{it_answers, one_answer, one_spelling}
use Rattle.packed_names.specs.Spellings.{Spells, SpellsOne}
use Rattle.packed_names.specs.declared.half_month.HalfMonth.{HalfMonth}
use Rattle.packed_names.specs.declared.number.TheConstants.{GREATEST_NUMBER}
use Rattle.packed_names.specs.declared.name.Designation.TheVariants as designations
use Rattle.packed_names.specs.declared.name.Name.{Name}
use Rattle.packed_names.specs.declared.name.Name.TheVariants as names
use Rattle.packed_names.specs.declared.name.NameFault.{NameFault}
use Rattle.packed_names.specs.declared.name.NameFault.TheVariants.{Spelling, OutOfRange}
use Rattle.packed_names.specs.Ranges.{IsHalfMonth, IsName, limit_of}
use Rattle.packed_names.specs.Judging.{is_within, is_half_month, is_provisional, is_in_range, judge, answered}

-- ---- the tests tell whether values are in range

pub half_month_test : (half : HalfMonth) → Decides (is_half_month half) (IsHalfMonth half)
half_month_test half = (
  λ e. record { year_from = grind (arith, nat_tests); year_to = grind (arith, nat_tests); index = grind (arith, nat_tests) },
  λ h. grind (arith, nat_tests, h.year_from, h.year_to, h.index),
)

within_test : (from to number : ℕ) → Decides (is_within from to number) ((from ≤ number) × (number ≤ to))
within_test from to number = (λ e. (grind (arith, nat_tests), grind (arith, nat_tests)), λ h. grind (arith, nat_tests, h.0, h.1))

pub name_test : (name : Name) → Decides (is_in_range name) (IsName name)
name_test (names.Number number) = within_test 1 GREATEST_NUMBER number.0
name_test (names.Designation (designations.Provisional provisional)) =
    let half = provisional.half in
    let order = provisional.order in
    Decides-like (is_provisional provisional) (λ h. record { half = h.0; order_from = h.1.0; order_to = h.1.1 }) (λ h. (h.half, (h.order_from, h.order_to)))
    (Decides-and (is_half_month half) (is_within 1 (limit_of half) order) (half_month_test half) (within_test 1 (limit_of half) order))
name_test (names.Designation (designations.Survey survey number)) = within_test 1 9999 number

-- The answers to a text, of a reader that takes the values that fit the shapes, where the test tells which of them are
-- in range.
module _ {P : Type 0} (InRange : P → Type 0) (test : P → Bool) (tells : (value : P) → Decides (test value) (InRange value)) (text_of : P → List ℕ) (Fits : P → Type 0) (fits : (value : P) → InRange value → Fits value) (read : List ℕ → Option P) (reader : IsReader (Spells Fits text_of) read) (text : List ℕ) where
  -- what an answer says of the text
  abbrev pub Says : Result P NameFault → Type 0
  Says (Ok value) = Spells InRange text_of value text
  Says (Err OutOfRange) = SpellsOne Fits text_of text × ¬ SpellsOne InRange text_of text
  Says (Err Spelling) = ¬ SpellsOne Fits text_of text

  shown : (value : P) → Spells InRange text_of value text → Spells Fits text_of value text
  shown value spells = record { within = fits value spells.within; text_is = spells.text_is }

  ranged : (value : P) → Spells Fits text_of value text → test value ≡ true → Spells InRange text_of value text
  ranged value shows passes = record { within = (tells value).0 passes; text_is = shows.text_is }

  judged_says : (value : P) → Spells Fits text_of value text → (passes : Bool) → test value ≡ passes → Says (cond passes (Ok value) (Err OutOfRange))
  judged_says value shows true e = ranged value shows e
  judged_says value shows false e = (
    (value, shows),
    λ one.
        let same = one_spelling (Spells Fits text_of) read reader one.0 value text (shown one.0 one.1) shows in
        let passes = (tells one.0).1 one.1.within in
        cc,
  )

  says : (result : Result P NameFault) → Answers (Spells Fits text_of) (judge test) Spelling text result → Says result
  says result (inl h) = rw h.2 (judged_says h.0 h.1 (test h.0) refl)
  says result (inr h) = rw h.1 (λ one. h.0 one.0 one.1)

  said : (result : Result P NameFault) → Says result → Answers (Spells Fits text_of) (judge test) Spelling text result
  said (Ok value) h = inl (value, shown value h, rw ((tells value).1 h.within) refl)
  said (Err OutOfRange) h =
      let shape = h.0 in
      let fails = false_from_ne_true (test shape.0) (λ passes. h.1 (shape.0, ranged shape.0 shape.1 passes)) in
      inl (shape.0, shape.1, rw fails refl)
  said (Err Spelling) h = inr (λ value shows. h (value, shows), refl)

  -- it is the answer exactly where what it says holds
  pub answers_exactly : (result : Result P NameFault) → result ≡ answered test (read text) → (answer : Result P NameFault) → (result ≡ answer) ↔ Says answer
  answers_exactly result exact answer =
      let right = it_answers (Spells Fits text_of) read reader (judge test) Spelling text in (
        λ same. says answer (rw (sym same ∙ exact) right),
        λ h. exact ∙ one_answer (Spells Fits text_of) read reader (judge test) Spelling text (answered test (read text)) answer right (said answer h),
      )

  -- no value shares its text with another
  pub one_value : (one other : P) → Spells InRange text_of one text → Spells InRange text_of other text → one ≡ other
  one_value one other a b = one_spelling (Spells Fits text_of) read reader one other text (shown one a) (shown other b)
