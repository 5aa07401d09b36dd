-- Moments as text: a date and decimals of the day, `2024 03 15.12345`, as columns 16 to 32 of an 80-column record.
use Rattle.std.specs.Prelude.{◌≡◌, ℕ, ◌*◌, ◌/◌, ◌^◌, ◌<◌, ◌≤◌, ◌&&◌, nat_le, if◌then◌else◌, List, ◌++◌, Option}
use Rattle.std.specs.Prelude.{Some, None, Result, Err, ℤ}
use Rattle.std.specs.Result.{result_map_both}
use Rattle.ascii_text.specs.Digits.{decimals_text}
use Rattle.ascii_text.specs.Blanks.{blanks, are_blanks}
use Rattle.ascii_text.specs.Reading.{◌>>=◌, decimals_at}
use Rattle.ascii_text.specs.Judged.{answer_of, Answers}
use Rattle.obs_time.specs.declared.fault.TimeFault.{TimeFault}
use Rattle.obs_time.specs.declared.fault.TimeFault.TheVariants.{Spelling, Decimals}
use Rattle.obs_time.specs.Verdicts.{IsVerdict}
use Rattle.obs_time.specs.Instants.{nanos_of_a_day}
use Rattle.obs_time.specs.Dates.{DateExists, IsObservedYear, day_number, moment}
use Rattle.obs_time.specs.DateText.{WrittenDate, HasDigits, date_text, date_at, judge_date}

-- a date, the number of decimals of the day, and their value
pub record WrittenDay : Type 0 where
  pub date : WrittenDate
  pub count : ℕ
  pub decimals : ℕ

-- a day with its decimals, and blanks after it
abbrev pub day_text : WrittenDay → ℕ → List ℕ
day_text day space = date_text 32 day.date (decimals_text day.count day.decimals ++ blanks space)

-- the text is `YYYY MM DD.d`, with one decimal or more and any number of blanks after them
pub record SpellsDay (day : WrittenDay) (text : List ℕ) : Type 0 where
  pub digits : HasDigits day.date
  pub some : 1 ≤ day.count
  pub decimals : day.decimals < 10 ^ day.count
  pub space : ℕ
  pub spelling : text ≡ day_text day space

-- this is the moment that a day with decimals stands for: the decimals are a part of the day's nanoseconds, exactly
pub record IsMomentOf (day : WrittenDay) (t : ℤ) : Type 0 where
  pub ns : ℕ
  pub part : ns * 10 ^ day.count ≡ day.decimals * nanos_of_a_day
  pub exact : t ≡ moment (day_number day.date.year day.date.month day.date.day) ns

-- a day with decimals that is the whole text, but for blanks
unfoldable pub day_at : List ℕ → Option WrittenDay
day_at text = do
  date ← date_at 32 text
  decimals ← decimals_at date.1
  if nat_le 1 decimals.0.0 && are_blanks decimals.1 then Some
      (record { date = date.0; count = decimals.0.0; decimals = decimals.0.1 }) else None

-- the nanoseconds of one in the last place of this many decimals of a day
abbrev pub decimal_unit : ℕ → ℕ
decimal_unit count = nanos_of_a_day / 10 ^ count

-- the moment of a day with decimals, and their number
unfoldable pub judge_day : WrittenDay → Result (ℤ × ℕ) TimeFault
judge_day day =
    if nat_le day.count 6 then
    (result_map_both (λ number. (moment number (day.decimals * decimal_unit day.count), day.count)) (λ fault. fault)
    (judge_date day.date))
    else Err Decimals

-- the moment that a text `YYYY MM DD.d` stands for, and the number of its decimals
unfoldable pub day_fraction_of : List ℕ → Result (ℤ × ℕ) TimeFault
day_fraction_of text = answer_of judge_day Spelling (day_at text)

-- what is to be said of a day with decimals: its moment and the number of its decimals, or the first that is wrong
abbrev pub IsDayVerdict : WrittenDay → Result (ℤ × ℕ) TimeFault → Type 0
IsDayVerdict day =
    IsVerdict (day.count ≤ 6) (IsObservedYear day.date.year) (DateExists day.date.year day.date.month day.date.day)
    (λ read. IsMomentOf day read.0 × (read.1 ≡ day.count))

-- what is to be said of a text: the judge's word on the day that it spells, or that it spells none
abbrev pub IsDayAnswer : List ℕ → Result (ℤ × ℕ) TimeFault → Type 0
IsDayAnswer text answer = Answers SpellsDay judge_day Spelling text answer
