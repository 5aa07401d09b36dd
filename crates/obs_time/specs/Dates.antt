-- Dates of the Gregorian calendar, and the date and time of day of a moment.
use Rattle.std.specs.Prelude.{◌≡◌, ℕ, ◌<◌, ℤ, pos, neg_ℤ, ◌+ℤ◌, ◌*ℤ◌, ◌≤ℤ◌, unsigned_abs}
use Rattle.std.specs.Int.{IsInRange, int_div_euclid, int_rem_euclid}
use Rattle.jiff_core.specs.Calendar.{IsDate, days_from_civil}
use Rattle.obs_time.specs.declared.civil.Civil.{Civil}
use Rattle.obs_time.specs.Instants.{nanos_of_a_day}

-- the calendar has this date
abbrev pub DateExists : ℕ → ℕ → ℕ → Type 0
DateExists year month day = IsDate (pos year) (pos month) (pos day)

-- a date's day number: days since 1970-01-01, negative before
abbrev pub day_number : ℕ → ℕ → ℕ → ℤ
day_number year month day = days_from_civil (pos year) month day

-- the moment this many nanoseconds after the start of the day with that number
abbrev pub moment : ℤ → ℕ → ℤ
moment day ns_of_day = (day *ℤ pos nanos_of_a_day) +ℤ pos ns_of_day

-- the number of the day that a moment lies in
abbrev pub day_of : ℤ → ℤ
day_of t = int_div_euclid t (pos nanos_of_a_day)

-- the nanoseconds of that day before it
abbrev pub ns_of_day : ℤ → ℕ
ns_of_day t = unsigned_abs (int_rem_euclid t (pos nanos_of_a_day))

-- the years that observations may have
abbrev pub IsObservedYear : ℕ → Type 0
IsObservedYear year = IsInRange 1800 2199 year

-- the day numbers of those years
abbrev pub IsObservedDay : ℤ → Type 0
IsObservedDay day = (neg_ℤ (pos 62_091) ≤ℤ day) × (day ≤ℤ pos 84_005)

-- this date and time of day are those of the moment
pub record IsCivilOf (t : ℤ) (civil : Civil) : Type 0 where
  pub date : DateExists civil.year civil.month civil.day
  pub time : civil.ns_of_day < nanos_of_a_day
  pub exact : t ≡ moment (day_number civil.year civil.month civil.day) civil.ns_of_day
