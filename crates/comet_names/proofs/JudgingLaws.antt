-- What the three answers of a reader say of the text.
use Rattle.std.proofs.Common.{◌≡◌, ℕ, Bool, true, false, cond, List, Option, Result, Ok, Err, refl, sym, ◌∙◌, arith, inl, inr}
use Rattle.std.specs.Prelude.{◌↔◌}
use Rattle.std.specs.Bool.{Decides}
use Rattle.std.proofs.lemmas.Bool.{false_from_ne_true}
use Rattle.std.proofs.lemmas.Bool.Decides.{nat_tests}
use Rattle.ascii_text.specs.Judged.{Answers, IsReader}
use Rattle.ascii_text.specs.Answering.{it_answers, one_answer, one_spelling}
use Rattle.packed_names.specs.declared.name.NameFault.{NameFault}
use Rattle.packed_names.specs.declared.name.NameFault.TheVariants.{Spelling, OutOfRange}
use Rattle.packed_names.specs.Judging.{judge, answered}
use Rattle.packed_names.specs.Spellings.{Spells, SpellsOne}
use Rattle.comet_names.specs.declared.comet.Comet.{Comet}
use Rattle.comet_names.specs.Judging.{is_comet}
use Rattle.comet_names.specs.Ranges.{IsComet}

-- the test tells whether a comet is in range
comet_test : (comet : Comet) → Decides (is_comet comet) (IsComet comet)
comet_test comet = (
  λ e. record {
    half = record { year_from = grind (arith, nat_tests); year_to = grind (arith, nat_tests); index = grind (arith, nat_tests) };
    number_from = grind (arith, nat_tests);
    number_to = grind (arith, nat_tests);
  },
  λ h. grind (arith, nat_tests, h.half.year_from, h.half.year_to, h.half.index, h.number_from, h.number_to),
)

-- The answers to a text, of a reader that takes the comets that fit the shape.
module _ (text_of : Comet → List ℕ) (Fits : Comet → Type 0) (fits : (comet : Comet) → IsComet comet → Fits comet) (read : List ℕ → Option Comet) (reader : IsReader (Spells Fits text_of) read) (text : List ℕ) where
  -- what an answer says of the text
  abbrev pub Says : Result Comet NameFault → Type 0
  Says (Ok comet) = Spells IsComet text_of comet text
  Says (Err OutOfRange) = SpellsOne Fits text_of text × ¬ SpellsOne IsComet text_of text
  Says (Err Spelling) = ¬ SpellsOne Fits text_of text

  shown : (comet : Comet) → Spells IsComet text_of comet text → Spells Fits text_of comet text
  shown comet spells = record { within = fits comet spells.within; text_is = spells.text_is }

  ranged : (comet : Comet) → Spells Fits text_of comet text → is_comet comet ≡ true → Spells IsComet text_of comet text
  ranged comet shows passes = record { within = (comet_test comet).0 passes; text_is = shows.text_is }

  judged_says : (comet : Comet) → Spells Fits text_of comet text → (passes : Bool) → is_comet comet ≡ passes → Says (cond passes (Ok comet) (Err OutOfRange))
  judged_says comet shows true e = ranged comet shows e
  judged_says comet shows false e = (
    (comet, shows),
    λ one.
        let same = one_spelling (Spells Fits text_of) read reader one.0 comet text (shown one.0 one.1) shows in
        let passes = (comet_test one.0).1 one.1.within in
        cc,
  )

  says : (result : Result Comet NameFault) → Answers (Spells Fits text_of) (judge is_comet) Spelling text result → Says result
  says result (inl h) = rw h.2 (judged_says h.0 h.1 (is_comet h.0) refl)
  says result (inr h) = rw h.1 (λ one. h.0 one.0 one.1)

  said : (result : Result Comet NameFault) → Says result → Answers (Spells Fits text_of) (judge is_comet) Spelling text result
  said (Ok comet) h = inl (comet, shown comet h, rw ((comet_test comet).1 h.within) refl)
  said (Err OutOfRange) h =
      let shape = h.0 in
      let fails = false_from_ne_true (is_comet shape.0) (λ passes. h.1 (shape.0, ranged shape.0 shape.1 passes)) in
      inl (shape.0, shape.1, rw fails refl)
  said (Err Spelling) h = inr (λ comet shows. h (comet, shows), refl)

  -- it is the answer exactly where what it says holds
  pub answers_exactly : (result : Result Comet NameFault) → result ≡ answered is_comet (read text) → (answer : Result Comet NameFault) → (result ≡ answer) ↔ Says answer
  answers_exactly result exact answer =
      let right = it_answers (Spells Fits text_of) read reader (judge is_comet) Spelling text in (
        λ same. says answer (rw (sym same ∙ exact) right),
        λ h. exact ∙ one_answer (Spells Fits text_of) read reader (judge is_comet) Spelling text (answered is_comet (read text)) answer right (said answer h),
      )

  -- no comet shares its text with another
  pub one_comet : (one other : Comet) → Spells IsComet text_of one text → Spells IsComet text_of other text → one ≡ other
  one_comet one other a b = one_spelling (Spells Fits text_of) read reader one other text (shown one a) (shown other b)
