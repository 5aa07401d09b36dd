-- The date of a day number, and the half-month that it lies in.
use Rattle.std.specs.Prelude.{ℕ, zero, suc, ◌+◌, ◌-◌, ◌*◌, ◌<◌, ◌≤◌, ◌&&◌, nat_le, if◌then◌else◌, Option, Some, None, ℤ}
use Rattle.std.specs.Prelude.{◌-ℤ◌, unsigned_abs}
use Rattle.std.specs.Int.Signed.{le_z}
use Rattle.obs_time.specs.Dates.{day_number, day_of}
use Rattle.obs_time.specs.DateText.{WrittenDate}

-- the last of the numbers from `first` to `first + more` that has begun by a day, where each begins on a day
unfoldable pub last_begun : (ℕ → ℤ) → ℤ → ℕ → ℕ → ℕ
last_begun begins day first zero = first
last_begun begins day first (suc more) =
    if le_z (begins (first + suc more)) day then first + suc more else last_begun begins day first more

-- the year that a day lies in, from 1800 to 2200: the last whose 1 January has come
unfoldable pub year_of : ℤ → ℕ
year_of day = last_begun (λ year. day_number year 1 1) day 1800 400

-- its month: the last of the year's twelve whose first day has come
unfoldable pub month_of : ℤ → ℕ
month_of day = last_begun (λ month. day_number (year_of day) month 1) day 1 11

-- the date of a day from 1800-01-01 on
unfoldable pub date_of_day : ℤ → WrittenDate
date_of_day day = record {
  year = year_of day;
  month = month_of day;
  day = unsigned_abs (day -ℤ day_number (year_of day) (month_of day) 1) + 1;
}

-- the half-month of a date, as the Minor Planet Center's designations have them: 0 for 1 to 15 January, 1 for the rest
-- of January, and so on to 23
abbrev pub half_index : WrittenDate → ℕ
half_index date = 2 * (date.month - 1) + (if nat_le date.day 15 then 0 else 1)

-- the year and the half-month of a date; nothing outside the years 1925 to 2099
unfoldable pub half_of : WrittenDate → Option (ℕ × ℕ)
half_of date = if nat_le 1925 date.year && nat_le date.year 2099 then Some (date.year, half_index date) else None

-- the half-month that a moment lies in
unfoldable pub half_month_of : ℤ → Option (ℕ × ℕ)
half_month_of t = half_of (date_of_day (day_of t))

-- a year that has half-months, and one of its half-months
abbrev pub IsHalf : ℕ × ℕ → Type 0
IsHalf half = (1925 ≤ half.0) × (half.0 ≤ 2099) × (half.1 < 24)
