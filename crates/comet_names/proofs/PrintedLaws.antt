-- The reader of printed comets takes what is spelled, and nothing else.
use Rattle.std.proofs.Common.{◌≡◌, ℕ, ◌≤◌, true, leb, List, [], ◌∷◌, ◌++◌, length, Some, Result, ◌↔◌, refl, sym, ap, ◌∙◌, arith}
use Rattle.std.specs.Fmt.{decimal}
use Rattle.std.proofs.lemmas.Bool.Decides.{nat_tests}
use Rattle.std.proofs.lemmas.List.{append-nil, take-append-drop}
use Rattle.ascii_text.specs.Digits.{digits_text}
use Rattle.ascii_text.specs.Judged.{IsReader}
use Rattle.ascii_text.specs.Laws.{TextLaws}
use Rattle.ascii_text.specs.Reading.{behind, number_at}
use Rattle.packed_names.specs.declared.half_month.HalfMonth.{HalfMonth}
use Rattle.packed_names.specs.declared.name.NameFault.{NameFault}
use Rattle.packed_names.specs.Judging.{answered}
use Rattle.packed_names.specs.Printed.{half_text}
use Rattle.packed_names.specs.PrintedReading.{half_in}
use Rattle.packed_names.specs.Spellings.{Spells}
use Rattle.comet_names.specs.declared.comet.Comet.{Comet}
use Rattle.comet_names.specs.declared.parts.Parts.{Parts}
use Rattle.comet_names.specs.Judging.{is_comet}
use Rattle.comet_names.specs.Kinds.{kind_of}
use Rattle.comet_names.specs.Printed.{printed_comet, FitsPrintedComet}
use Rattle.comet_names.specs.Ranges.{IsComet}
use Rattle.comet_names.specs.Reading.{six_at, printed_parts, comet_of, printed_comet_in}
use Rattle.comet_names.proofs.Chains.{each, tested, ended, mapped}
use Rattle.comet_names.proofs.JudgingLaws.{Says, answers_exactly}
use Rattle.comet_names.proofs.PartLaws.{kind_of-kind_letter, kind_letter-kind_of, half_again, half_takes}

six_again : (half : HalfMonth) (rest : List ℕ) → six_at (half_text half ++ rest) ≡ Some (half_text half, rest)
unfolding six_at half_text digits_text
six_again half rest =
    let long : leb 6 (length (half_text half ++ rest)) ≡ true = grind (arith, nat_tests) in
    rw long refl

six_takes : (text : List ℕ) (x : List ℕ × List ℕ) → six_at text ≡ Some x → text ≡ x.0 ++ x.1
unfolding six_at
six_takes text = tested (leb 6 (length text)) _ _ (λ long. sym (take-append-drop 6 text))

module _ (texts : TextLaws) where
  open texts use {digit_run-nil, behind-cons, behind_takes, number_again, number_takes}

  number_again_whole : (number : ℕ) → number ≤ 999 → number_at 3 (decimal number) ≡ Some (number, [])
  number_again_whole number within =
      ap (number_at 3) (sym (append-nil (decimal number))) ∙ number_again 3 number [] (omega arith) (omega arith) (omega arith) digit_run-nil

  printed_again : (comet : Comet) → FitsPrintedComet comet → printed_comet_in (printed_comet comet) ≡ Some comet
  unfolding printed_comet_in printed_parts printed_comet comet_of
  printed_again comet fits =
      rw (kind_of-kind_letter comet.kind, behind-cons 47 _, six_again comet.half _, number_again_whole comet.number fits.number, half_again texts comet.half fits.half) refl

  -- what the comet is whose parts were read
  Shows : List ℕ → Parts → Type 0
  Shows text parts = (half : HalfMonth) → half_in parts.half ≡ Some half → Spells FitsPrintedComet printed_comet (record { kind = parts.kind; half = half; number = parts.number }) text

  parts_take : (text : List ℕ) (parts : Parts) → printed_parts text ≡ Some parts → Shows text parts
  unfolding printed_parts printed_comet Shows
  parts_take [] parts read = absurd cc
  parts_take (letter ∷ text) parts read =
      each (kind_of letter) _ (Shows (letter ∷ text)) (λ kind a. each (behind 47 text) _ _ (λ slash b. each (six_at slash) _ _ (λ six c. each (number_at 3 six.1) _ _ (λ number d. ended _ number.1 _ (λ end half e.
      let half_is = half_takes texts six.0 half e in
      let number_is = number_takes 3 six.1 number (omega arith) d in
      record {
        within = record { half = half_is.within; number = omega (arith, number_is.below) };
        text_is = cc (kind_letter-kind_of letter kind a, behind_takes 47 text slash b, six_takes slash six c, half_is.text_is, number_is.text_is, end, append-nil (decimal number.0));
      }))))) parts read

  printed_takes : (text : List ℕ) (comet : Comet) → printed_comet_in text ≡ Some comet → Spells FitsPrintedComet printed_comet comet text
  unfolding printed_comet_in comet_of Shows
  printed_takes text = each (printed_parts text) _ _ (λ parts a. mapped _ (half_in parts.half) _ (λ half b. parts_take text parts a half b))

  pub printed_reader : IsReader (Spells FitsPrintedComet printed_comet) printed_comet_in
  printed_reader = record {
    again = λ comet text shows. ap printed_comet_in shows.text_is ∙ printed_again comet shows.within;
    takes = printed_takes;
  }

-- a comet in range has values that a printed text can show
pub FitsPrintedComet-IsComet : (comet : Comet) → IsComet comet → FitsPrintedComet comet
FitsPrintedComet-IsComet comet h = record { half = (omega (arith, h.half.year_to), h.half.index); number = omega (arith, h.number_to) }

-- what each answer to a text says
pub printed_exactly : (texts : TextLaws) (text : List ℕ) (result : Result Comet NameFault) → result ≡ answered is_comet (printed_comet_in text) → (answer : Result Comet NameFault)
    → (result ≡ answer) ↔ Says printed_comet FitsPrintedComet FitsPrintedComet-IsComet printed_comet_in (printed_reader texts) text answer
printed_exactly texts text result exact answer = answers_exactly printed_comet FitsPrintedComet FitsPrintedComet-IsComet printed_comet_in (printed_reader texts) text result exact answer
