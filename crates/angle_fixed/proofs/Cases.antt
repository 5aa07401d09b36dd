-- The right answers by cases are the answers that are worked out.
use Rattle.std.proofs.Common.{◌≡◌, ◌<◌, ◌≤◌, Bool, cond, ltb, leb, ◌||◌, List, ℕ, Option, Some, None, Result, Err, refl, arith}
use Rattle.std.proofs.lemmas.Bool.{ltb-true, ltb-false, leb-true, leb-false}
use Rattle.std.proofs.lemmas.Bool.Decides.{nat_tests}
use Rattle.ascii_text.specs.Judged.{answer_of}
use Rattle.std.specs.Option.{option_map}
use Rattle.ascii_text.specs.Reading.{◌>>=◌}
use Rattle.ascii_text.specs.DecimalNumbers.{NumberParts, IsSpelledNumber, number_parts_at, within}
use Rattle.ascii_text.specs.Laws.{TextLaws}
use Rattle.angle_fixed.specs.declared.fault.AngleFault.{AngleFault}
use Rattle.angle_fixed.specs.declared.fault.AngleFault.TheVariants.{Spelling, Decimals}
use Rattle.angle_fixed.specs.Angles.{Parts, IsSpelled, IsSpelledSigned, time_units, arc_units, circle, quarter, signed}
use Rattle.angle_fixed.specs.Answer.{IsOnClock, IsWithinQuarter, ReadsTime, ReadsArc}
use Rattle.angle_fixed.specs.Reading.{parts_at, signed_parts_at, past_sixty, time_answer, arc_answer}
use Rattle.angle_fixed.specs.Degrees.{IsSpelledSignedDegrees, degree_units, past_sign, signed_degrees_at, ra_within, dec_within, ra_degrees_answer, dec_degrees_answer, ra_degrees_of, dec_degrees_of, ReadsRaDegrees, ReadsDecDegrees}
use Rattle.angle_fixed.specs.WrittenDegrees.{found_answer}
use Rattle.angle_fixed.proofs.Judging.{IsTest, IsOneAnswer, reads_right}
use Rattle.angle_fixed.proofs.Readers.{reads_parts, reads_signed_parts, reads_signed_degrees}

clock_test : IsTest {P = Parts} (λ p. ltb 23 p.whole || past_sixty p) IsOnClock (λ p. IsOnClock p → ⊥)
clock_test = record {
  within = λ p e. record { hour = grind (arith, nat_tests); minute = grind (arith, nat_tests); second = grind (arith, nat_tests) };
  beyond = λ p e is. grind (arith, nat_tests);
  apart = λ p is other. other is;
}

quarter_test : IsTest {P = Bool × Parts} (λ p. past_sixty p.1 || ltb quarter (arc_units p.1)) (λ p. IsWithinQuarter p.1) (λ p. IsWithinQuarter p.1 → ⊥)
quarter_test = record {
  within = λ p e. record { minute = grind (arith, nat_tests); second = grind (arith, nat_tests); units = grind (arith, nat_tests) };
  beyond = λ p e is. grind (arith, nat_tests);
  apart = λ p is other. other is;
}

ra_test : IsTest {P = NumberParts} (λ p. leb circle (degree_units p)) (λ p. degree_units p < circle) (λ p. circle ≤ degree_units p)
ra_test = record { within = λ p. leb-false circle (degree_units p); beyond = λ p. leb-true circle (degree_units p); apart = λ p below above. omega (arith, below, above) }

dec_test : IsTest {P = Bool × NumberParts} (λ p. ltb quarter (degree_units p.1)) (λ p. degree_units p.1 ≤ quarter) (λ p. quarter < degree_units p.1)
dec_test = record { within = λ p. ltb-false quarter (degree_units p.1); beyond = λ p. ltb-true quarter (degree_units p.1); apart = λ p below above. omega (arith, below, above) }

module _ (texts : TextLaws) where
  open texts use {reads_number}

  pub time_one : IsOneAnswer ReadsTime (λ text. answer_of time_answer Spelling (parts_at text))
  unfolding time_answer
  time_one = reads_right IsSpelled 3 (λ p. p.count) _ _ _ (λ p. (time_units p, p.count)) clock_test parts_at (reads_parts texts)

  pub arc_one : IsOneAnswer ReadsArc (λ text. answer_of arc_answer Spelling (signed_parts_at text))
  unfolding arc_answer
  arc_one = reads_right IsSpelledSigned 2 (λ p. p.1.count) _ _ _ (λ p. (signed p.0 (arc_units p.1), p.1.count, p.0)) quarter_test signed_parts_at (reads_signed_parts texts)

  pub ra_degrees_one : IsOneAnswer ReadsRaDegrees ra_degrees_of
  unfolding ra_degrees_of ra_degrees_answer
  ra_degrees_one = reads_right (IsSpelledNumber 3) 12 (λ p. p.count) _ _ _ degree_units ra_test (number_parts_at 3) (reads_number 3)

  pub dec_degrees_one : IsOneAnswer ReadsDecDegrees dec_degrees_of
  unfolding dec_degrees_of dec_degrees_answer
  dec_degrees_one = reads_right (IsSpelledSignedDegrees 2) 12 (λ p. p.1.count) _ _ _ (λ p. signed p.0 (degree_units p.1)) dec_test (signed_degrees_at 2) (reads_signed_degrees texts 2)

-- ---- what the code finds of degrees, with the decimals passed over where they are too many

-- parts with at most twelve decimals are judged
abbrev judged : {V : Type 0} → (NumberParts → Result V AngleFault) → NumberParts → Result V AngleFault
judged judge p = cond (ltb 12 p.count) (Err Decimals) (judge p)

-- What was found, with too many decimals passed over, is answered as what the text spells.
answer_found : {V : Type 0} (judge : NumberParts → Result V AngleFault) (found : Option NumberParts)
    → answer_of (judged judge) Spelling found ≡ found_answer judge (option_map (λ p. within 12 p) found)
unfolding answer_of
answer_found judge None = refl
answer_found judge (Some p) = grind (arith, nat_tests)

pub ra_found : (text : List ℕ) → found_answer (λ p. ra_within p) (option_map (λ p. within 12 p) (number_parts_at 3 text)) ≡ ra_degrees_of text
unfolding ra_degrees_of ra_degrees_answer
ra_found text = rw (← answer_found (λ p. ra_within p) (number_parts_at 3 text)) refl

signed_answer : (minus : Bool) (found : Option NumberParts)
    → answer_of (judged (λ p. dec_within (minus, p))) Spelling found ≡ answer_of dec_degrees_answer Spelling (found >>= λ p. Some (minus, p))
unfolding answer_of dec_degrees_answer
signed_answer minus None = refl
signed_answer minus (Some p) = refl

pub dec_found : (text : List ℕ) → found_answer (λ p. dec_within ((past_sign text).0, p)) (option_map (λ p. within 12 p) (number_parts_at 2 (past_sign text).1)) ≡ dec_degrees_of text
unfolding dec_degrees_of signed_degrees_at
dec_found text = rw (← answer_found (λ p. dec_within ((past_sign text).0, p)) (number_parts_at 2 (past_sign text).1)) (signed_answer (past_sign text).0 (number_parts_at 2 (past_sign text).1))
