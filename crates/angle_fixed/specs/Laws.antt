-- What holds of the texts of angles, whoever reads or writes them.
use Rattle.std.specs.Prelude.{◌≡◌, ℕ, Bool, ℤ, List, length, Result, Ok}
use Rattle.ascii_text.specs.Judged.{answer_of}
use Rattle.angle_fixed.specs.declared.fault.AngleFault.{AngleFault}
use Rattle.angle_fixed.specs.declared.fault.AngleFault.TheVariants.{Spelling}
use Rattle.angle_fixed.specs.Answer.{ReadsTime, ReadsArc}
use Rattle.angle_fixed.specs.Reading.{parts_at, time_answer, signed_parts_at, arc_answer}
use Rattle.angle_fixed.specs.Degrees.{ReadsRaDegrees, ReadsDecDegrees, ra_degrees_of, dec_degrees_of}
use Rattle.angle_fixed.specs.Writing.{time_text, arc_text}

pub record AngleLaws : Type 0 where
  -- For each text one answer is right, and it is the one that is worked out: for right ascension and declination in
  -- sexagesimal form, and in degrees.
  pub time_reads : (text : List ℕ) → ReadsTime text (answer_of time_answer Spelling (parts_at text))
  pub time_only : (text : List ℕ) (other : Result (ℕ × ℕ) AngleFault) → ReadsTime text other
      → answer_of time_answer Spelling (parts_at text) ≡ other
  pub arc_reads : (text : List ℕ) → ReadsArc text (answer_of arc_answer Spelling (signed_parts_at text))
  pub arc_only : (text : List ℕ) (other : Result (ℤ × ℕ × Bool) AngleFault) → ReadsArc text other
      → answer_of arc_answer Spelling (signed_parts_at text) ≡ other
  pub ra_degrees_reads : (text : List ℕ) → ReadsRaDegrees text (ra_degrees_of text)
  pub ra_degrees_only : (text : List ℕ) (other : Result ℕ AngleFault) → ReadsRaDegrees text other → ra_degrees_of text
      ≡ other
  pub dec_degrees_reads : (text : List ℕ) → ReadsDecDegrees text (dec_degrees_of text)
  pub dec_degrees_only : (text : List ℕ) (other : Result ℤ AngleFault) → ReadsDecDegrees text other
      → dec_degrees_of text ≡ other
  -- Twelve bytes that were read are written again, declinations with the minus that stood before zero.
  pub time_text_again : (text : List ℕ) (units count : ℕ) → length text ≡ 12 → ReadsTime text (Ok (units, count))
      → time_text units count ≡ text
  pub arc_text_again : (text : List ℕ) (units : ℤ) (count : ℕ) (minus : Bool) → length text ≡ 12
      → ReadsArc text (Ok (units, count, minus)) → arc_text units count minus ≡ text
