-- Dates as text: four digits of the year, two of the month and two of the day, with a separator between them.
use Rattle.std.specs.Prelude.{◌≡◌, ℕ, ◌^◌, ◌<◌, Bool, ◌&&◌, nat_le, ◌==◌, if◌then◌else◌, List, [], ◌∷◌, ◌++◌}
use Rattle.std.specs.Prelude.{length, Option, Some, None, Result, Ok, Err, ℤ, pos, ⊤}
use Rattle.jiff_core.specs.Calendar.{days_in_month}
use Rattle.ascii_text.specs.declared.digits.Radix.TheVariants.{Ten}
use Rattle.ascii_text.specs.Digits.{digits_text}
use Rattle.ascii_text.specs.Reading.{◌>>=◌, digits_at, behind}
use Rattle.ascii_text.specs.Judged.{answer_of, Answers}
use Rattle.obs_time.specs.declared.fault.TimeFault.{TimeFault}
use Rattle.obs_time.specs.declared.fault.TimeFault.TheVariants.{Spelling, NoSuchDate, Range}
use Rattle.obs_time.specs.Verdicts.{IsVerdict}
use Rattle.obs_time.specs.Dates.{DateExists, IsObservedYear, day_number}

-- the numbers that a date is written with
pub record WrittenDate : Type 0 where
  pub year : ℕ
  pub month : ℕ
  pub day : ℕ

-- they have no more digits than are written
pub record HasDigits (date : WrittenDate) : Type 0 where
  pub year : date.year < 10 ^ 4
  pub month : date.month < 10 ^ 2
  pub day : date.day < 10 ^ 2

-- a date, and after it the rest of a text
abbrev pub date_text : ℕ → WrittenDate → List ℕ → List ℕ
date_text separator date rest =
    digits_text Ten 4 date.year ++ (separator ∷ (digits_text Ten 2 date.month
    ++ (separator ∷ (digits_text Ten 2 date.day ++ rest))))

-- the text is `YYYY-MM-DD`
pub record SpellsDate (date : WrittenDate) (text : List ℕ) : Type 0 where
  pub digits : HasDigits date
  pub spelling : text ≡ date_text 45 date []

-- a date at the front of a text, and what follows
unfoldable pub date_at : ℕ → List ℕ → Option (WrittenDate × List ℕ)
date_at separator text = do
  year ← digits_at Ten 4 text
  months ← behind separator year.1
  month ← digits_at Ten 2 months
  days ← behind separator month.1
  day ← digits_at Ten 2 days
  Some (record { year = year.0; month = month.0; day = day.0 }, day.1)

-- a date that is the whole text
unfoldable pub whole_date : List ℕ → Option WrittenDate
whole_date text = do
  date ← date_at 45 text
  if length date.1 == 0 then Some date.0 else None

-- observations may have this year
abbrev pub is_observed_year : ℕ → Bool
is_observed_year year = nat_le 1800 year && nat_le year 2199

-- the calendar has this date
abbrev pub date_exists : ℕ → ℕ → ℕ → Bool
date_exists year month day =
    (nat_le 1 month && nat_le month 12) && (nat_le 1 day && nat_le day (days_in_month (pos year) month))

-- the day number of a date that observations may have
unfoldable pub judge_date : WrittenDate → Result ℤ TimeFault
judge_date date =
    if is_observed_year date.year then
    (if date_exists date.year date.month date.day then Ok (day_number date.year date.month date.day)
    else Err NoSuchDate)
    else Err Range

-- the day number that a text `YYYY-MM-DD` stands for
unfoldable pub date_of : List ℕ → Result ℤ TimeFault
date_of text = answer_of judge_date Spelling (whole_date text)

-- what is to be said of a date: its day number, or the first that is wrong with it
abbrev pub IsDateVerdict : WrittenDate → Result ℤ TimeFault → Type 0
IsDateVerdict date =
    IsVerdict ⊤ (IsObservedYear date.year) (DateExists date.year date.month date.day)
    (λ day. day ≡ day_number date.year date.month date.day)

-- what is to be said of a text: the judge's word on the date that it spells, or that it spells none
abbrev pub IsDateAnswer : List ℕ → Result ℤ TimeFault → Type 0
IsDateAnswer text answer = Answers SpellsDate judge_date Spelling text answer
