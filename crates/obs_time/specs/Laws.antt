-- What holds of the texts of moments, whoever reads or writes them.
use Rattle.std.specs.Prelude.{◌≡◌, ◌↔◌, ℕ, ◌≤◌, ℤ, List, length, Result, Ok}
use Rattle.obs_time.specs.declared.fault.TimeFault.{TimeFault}
use Rattle.obs_time.specs.DateText.{WrittenDate, IsDateVerdict, judge_date}
use Rattle.obs_time.specs.DayText.{WrittenDay, IsDayVerdict, IsDayAnswer, judge_day, day_fraction_of}
use Rattle.obs_time.specs.IsoText.{WrittenIso, IsIsoVerdict, IsIsoAnswer, judge_iso, iso_of}
use Rattle.obs_time.specs.WrittenText.{IsTextOf}

pub record TimeLaws : Type 0 where
  -- For each text one answer is right, and it is the one that is worked out: for a date with decimals of the day, and
  -- for the ISO form.
  pub day_answered : (text : List ℕ) → IsDayAnswer text (day_fraction_of text)
  pub day_answer_only : (text : List ℕ) (other : Result (ℤ × ℕ) TimeFault) → IsDayAnswer text other
      → other ≡ day_fraction_of text
  pub iso_answered : (text : List ℕ) → IsIsoAnswer text (iso_of text)
  pub iso_answer_only : (text : List ℕ) (other : Result ℤ TimeFault) → IsIsoAnswer text other → other ≡ iso_of text
  -- What is to be said of a date, of a day with decimals and of an ISO time is what its judge says, and nothing else.
  pub date_judged : (date : WrittenDate) (answer : Result ℤ TimeFault) → IsDateVerdict date answer
      ↔ (answer ≡ judge_date date)
  pub day_judged : (day : WrittenDay) (answer : Result (ℤ × ℕ) TimeFault) → IsDayVerdict day answer
      ↔ (answer ≡ judge_day day)
  pub iso_judged : (iso : WrittenIso) (answer : Result ℤ TimeFault) → IsIsoVerdict iso answer
      ↔ (answer ≡ judge_iso iso)
  -- a moment has one text of a width with this many decimals of the day
  pub one_text : (t : ℤ) (count : ℕ) (a b : List ℕ) → count ≤ 6 → IsTextOf t count a → IsTextOf t count b
      → length a ≡ length b
      → a ≡ b
  -- what was read is written again
  pub text_is_kept : (t : ℤ) (count : ℕ) (written text : List ℕ) → count ≤ 6 → IsTextOf t count written
      → length text ≡ length written → day_fraction_of text ≡ Ok (t, count) → text ≡ written
