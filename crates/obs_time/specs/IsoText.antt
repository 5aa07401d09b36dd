-- Moments as ISO 8601 text: `2024-03-15T23:59:59.999Z`, a date, a time of day in UTC, and decimals of the second or
-- none.
use Rattle.std.specs.Prelude.{◌≡◌, ℕ, ◌+◌, ◌-◌, ◌*◌, ◌/◌, ◌%◌, ◌^◌, ◌<◌, ◌≤◌, Bool, ◌&&◌, nat_le, ◌==◌}
use Rattle.std.specs.Prelude.{if◌then◌else◌, List, [], ◌∷◌, ◌++◌, length, Option, Some, None, Result, Err, ℤ}
use Rattle.std.specs.Result.{result_map_both}
use Rattle.ascii_text.specs.declared.digits.Radix.TheVariants.{Ten}
use Rattle.ascii_text.specs.Digits.{digits_text, decimals_text}
use Rattle.ascii_text.specs.Reading.{◌>>=◌, digits_at, behind, decimals_at, decimals_within}
use Rattle.ascii_text.specs.Judged.{answer_of, Answers}
use Rattle.obs_time.specs.declared.fault.TimeFault.{TimeFault}
use Rattle.obs_time.specs.declared.fault.TimeFault.TheVariants.{Spelling, Range, Decimals}
use Rattle.obs_time.specs.Verdicts.{IsVerdict}
use Rattle.obs_time.specs.Dates.{DateExists, IsObservedYear, day_number, day_of, ns_of_day, moment}
use Rattle.obs_time.specs.DateText.{WrittenDate, HasDigits, date_text, date_at, judge_date}
use Rattle.obs_time.specs.Calendar.{date_of_day}

-- the numbers that a time of day is written with
pub record WrittenClock : Type 0 where
  pub hour : ℕ
  pub minute : ℕ
  pub second : ℕ

-- they have no more digits than are written
pub record ClockHasDigits (clock : WrittenClock) : Type 0 where
  pub hour : clock.hour < 10 ^ 2
  pub minute : clock.minute < 10 ^ 2
  pub second : clock.second < 10 ^ 2

-- a date, a time of day, the number of decimals of the second, and their value
pub record WrittenIso : Type 0 where
  pub date : WrittenDate
  pub clock : WrittenClock
  pub count : ℕ
  pub decimals : ℕ

-- a time of day `hh:mm:ss`, and after it the rest of a text
abbrev pub clock_text : WrittenClock → List ℕ → List ℕ
clock_text clock rest =
    digits_text Ten 2 clock.hour ++ (58 ∷ (digits_text Ten 2 clock.minute
    ++ (58 ∷ (digits_text Ten 2 clock.second ++ rest))))

-- `YYYY-MM-DDThh:mm:ssZ`, or with a point and the decimals before the Z
abbrev pub spelled_iso : WrittenIso → List ℕ
spelled_iso iso = date_text 45 iso.date (84 ∷ (clock_text iso.clock
    (decimals_text iso.count iso.decimals ++ (90 ∷ []))))

-- the text is that one, without a point where there are no decimals; they may be any number
pub record SpellsIso (iso : WrittenIso) (text : List ℕ) : Type 0 where
  pub date : HasDigits iso.date
  pub clock : ClockHasDigits iso.clock
  pub decimals : iso.decimals < 10 ^ iso.count
  pub spelling : text ≡ spelled_iso iso

-- a day has this hour, minute and second: hours to 23, minutes and seconds to 59
pub record IsTimeOfDay (clock : WrittenClock) : Type 0 where
  pub hour : clock.hour ≤ 23
  pub minute : clock.minute ≤ 59
  pub second : clock.second ≤ 59

-- the seconds of the day before a time of day
abbrev pub seconds_of : WrittenClock → ℕ
seconds_of clock = (clock.hour * 60 + clock.minute) * 60 + clock.second

-- the nanoseconds of a second
abbrev pub nanos_of_a_second : ℕ
nanos_of_a_second = 1_000_000_000

-- this is the moment that the numbers stand for: the decimals are a part of the second's nanoseconds, exactly
pub record IsIsoMoment (iso : WrittenIso) (t : ℤ) : Type 0 where
  pub ns : ℕ
  pub part : ns * 10 ^ iso.count ≡ iso.decimals * nanos_of_a_second
  pub exact : t ≡ moment (day_number iso.date.year iso.date.month iso.date.day)
      (seconds_of iso.clock * nanos_of_a_second + ns)

-- a time of day at the front of a text, and what follows
unfoldable pub clock_at : List ℕ → Option (WrittenClock × List ℕ)
clock_at text = do
  hour ← digits_at Ten 2 text
  minutes ← behind 58 hour.1
  minute ← digits_at Ten 2 minutes
  seconds ← behind 58 minute.1
  second ← digits_at Ten 2 seconds
  Some (record { hour = hour.0; minute = minute.0; second = second.0 }, second.1)

-- a date and a time of day at the front of a text, and what follows
unfoldable pub time_at : List ℕ → Option ((WrittenDate × WrittenClock) × List ℕ)
time_at text = do
  date ← date_at 45 text
  clocks ← behind 84 date.1
  clock ← clock_at clocks
  Some ((date.0, clock.0), clock.1)

-- the numbers of an ISO time that is the whole text
unfoldable pub iso_at : List ℕ → Option WrittenIso
iso_at text = do
  time ← time_at text
  decimals ← decimals_at time.1
  zone ← behind 90 decimals.1
  if length zone == 0 then Some (record {
    date = time.0.0;
    clock = time.0.1;
    count = decimals.0.0;
    decimals = decimals.0.1;
  }) else None

-- the same parts, with nothing in place of the decimals where they are more than nine
unfoldable pub iso_within : List ℕ → Option ((WrittenDate × WrittenClock) × Option (ℕ × ℕ))
iso_within text = do
  time ← time_at text
  decimals ← decimals_within 9 time.1
  zone ← behind 90 decimals.1
  if length zone == 0 then Some (time.0, decimals.0) else None

-- a day has this hour, minute and second
abbrev pub is_time_of_day : WrittenClock → Bool
is_time_of_day clock = nat_le clock.hour 23 && (nat_le clock.minute 59 && nat_le clock.second 59)

-- the nanoseconds of the day before a time of day with at most nine decimals
abbrev pub ns_of_iso : WrittenIso → ℕ
ns_of_iso iso = seconds_of iso.clock * nanos_of_a_second + iso.decimals * 10 ^ (9 - iso.count)

-- the moment that the numbers stand for: a time of day out of range comes before what the date's judge says
unfoldable pub judge_iso : WrittenIso → Result ℤ TimeFault
judge_iso iso =
    if nat_le iso.count 9 then
    (if is_time_of_day iso.clock then
    (result_map_both (λ number. moment number (ns_of_iso iso)) (λ fault. fault) (judge_date iso.date))
    else Err Range)
    else Err Decimals

-- the moment that a text `YYYY-MM-DDThh:mm:ssZ` stands for, with or without decimals of the second
unfoldable pub iso_of : List ℕ → Result ℤ TimeFault
iso_of text = answer_of judge_iso Spelling (iso_at text)

-- what is to be said of the numbers of an ISO time: the moment, or the first that is wrong with them
abbrev pub IsIsoVerdict : WrittenIso → Result ℤ TimeFault → Type 0
IsIsoVerdict iso =
    IsVerdict (iso.count ≤ 9) (IsTimeOfDay iso.clock × IsObservedYear iso.date.year)
    (DateExists iso.date.year iso.date.month iso.date.day) (IsIsoMoment iso)

-- what is to be said of a text: the judge's word on the numbers that it spells, or that it spells none
abbrev pub IsIsoAnswer : List ℕ → Result ℤ TimeFault → Type 0
IsIsoAnswer text answer = Answers SpellsIso judge_iso Spelling text answer

-- the time of day after this many seconds of it
abbrev pub clock_of : ℕ → WrittenClock
clock_of seconds = record { hour = seconds / 3600; minute = seconds / 60 % 60; second = seconds % 60 }

-- the numbers of a moment, with nine decimals
unfoldable pub iso_numbers : ℤ → WrittenIso
iso_numbers t = record {
  date = date_of_day (day_of t);
  clock = clock_of (ns_of_day t / nanos_of_a_second);
  count = 9;
  decimals = ns_of_day t % nanos_of_a_second;
}

-- the text of a moment, with nine decimals
unfoldable pub iso_text : ℤ → List ℕ
iso_text t = spelled_iso (iso_numbers t)
