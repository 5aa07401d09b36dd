-- Kinds, and half-months as they are printed: what is written is read, and what is read was written.
use Rattle.std.proofs.Common.{◌≡◌, ℕ, ◌<◌, List, [], ◌∷◌, ◌++◌, Some, true, ltb, refl, sym, ap, ◌∙◌, arith}
use Rattle.std.proofs.lemmas.Bool.{ltb-true}
use Rattle.std.proofs.lemmas.Bool.Decides.{nat_tests}
use Rattle.ascii_text.specs.declared.digits.Radix.TheVariants.{Ten}
use Rattle.ascii_text.specs.Digits.{digits_text}
use Rattle.ascii_text.specs.Laws.{TextLaws}
use Rattle.ascii_text.specs.Reading.{digits_at, behind}
use Rattle.packed_names.specs.declared.half_month.HalfMonth.{HalfMonth}
use Rattle.packed_names.specs.Letters.{letter_of, index_of, letter_at}
use Rattle.packed_names.specs.Printed.{half_text, FitsPrintedHalf}
use Rattle.packed_names.specs.PrintedReading.{half_at, half_in}
use Rattle.packed_names.specs.Spellings.{Spells}
use Rattle.comet_names.specs.declared.comet.CometKind.{CometKind}
use Rattle.comet_names.specs.declared.comet.CometKind.TheVariants.{C, P}
use Rattle.comet_names.specs.Kinds.{kind_letter, kind_of}
use Rattle.comet_names.proofs.Chains.{each, tested, ended, made}

-- ---- kinds

pub kind_of-kind_letter : (kind : CometKind) → kind_of (kind_letter kind) ≡ Some kind
unfolding kind_of
kind_of-kind_letter C = refl
kind_of-kind_letter P = refl

pub kind_letter-kind_of : (letter : ℕ) (kind : CometKind) → kind_of letter ≡ Some kind → letter ≡ kind_letter kind
unfolding kind_of
kind_letter-kind_of letter kind read = grind (arith, nat_tests)

-- ---- half-months

index_of-letter_of : (index : ℕ) → index < 24 → index_of (letter_of index) ≡ Some index
unfolding index_of
index_of-letter_of index below = grind (arith, nat_tests)

letter_of-index_of : (letter index : ℕ) → index_of letter ≡ Some index → letter_of index ≡ letter
unfolding index_of
letter_of-index_of letter index read = grind (arith, nat_tests)

letter_at-letter_of : (index : ℕ) → index < 24 → letter_at 24 (letter_of index ∷ []) ≡ Some (index, [])
unfolding letter_at
letter_at-letter_of index below =
    let read : index_of (letter_of index) ≡ Some index = index_of-letter_of index below in
    let within : ltb index 24 ≡ true = grind (arith, nat_tests) in
    rw (read, within) refl

letter_at_takes : (text : List ℕ) (x : ℕ × List ℕ) → letter_at 24 text ≡ Some x → (text ≡ letter_of x.0 ∷ x.1) × (x.0 < 24)
unfolding letter_at
letter_at_takes [] x read = absurd cc
letter_at_takes (letter ∷ text) x read =
    each (index_of letter) _ (λ (y : ℕ × List ℕ). (letter ∷ text ≡ letter_of y.0 ∷ y.1) × (y.0 < 24)) (λ index a. tested (ltb index 24) (index, text) _ (λ b.
    (ap (λ (l : ℕ). l ∷ text) (sym (letter_of-index_of letter index a)), ltb-true _ _ b))) x read

-- a half-month before a text
half_front : HalfMonth → List ℕ → List ℕ
half_front half rest = digits_text Ten 4 half.year ++ (32 ∷ letter_of half.index ∷ rest)

module _ (texts : TextLaws) where
  open texts use {digits_again, digits_takes, behind-cons, behind_takes}

  pub half_again : (half : HalfMonth) → FitsPrintedHalf half → half_in (half_text half) ≡ Some half
  unfolding half_in half_at half_text
  half_again half fits =
      rw (digits_again Ten 4 half.year _ fits.0, behind-cons 32 _, letter_at-letter_of half.index fits.1) refl

  front_takes : (text : List ℕ) (x : HalfMonth × List ℕ) → half_at text ≡ Some x → (text ≡ half_front x.0 x.1) × FitsPrintedHalf x.0
  unfolding half_at half_front
  front_takes text =
      each (digits_at Ten 4 text) _ _ (λ year a. each (behind 32 year.1) _ _ (λ blank b. each (letter_at 24 blank) _ _ (λ half c.
      let year_is = digits_takes Ten 4 text year.0 year.1 a in
      let letter_is = letter_at_takes blank half c in
      made _ _ (cc (year_is.0, behind_takes 32 year.1 blank b, letter_is.0), (year_is.1, letter_is.1)))))

  pub half_takes : (text : List ℕ) (half : HalfMonth) → half_in text ≡ Some half → Spells FitsPrintedHalf half_text half text
  unfolding half_in half_text half_front
  half_takes text =
      each (half_at text) _ _ (λ half a. ended half.0 half.1 _ (λ end.
      let took = front_takes text half a in
      record { within = took.1; text_is = took.0 ∙ ap (half_front half.0) end }))
