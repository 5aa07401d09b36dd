-- The text of a moment, with a given number of decimals of the day.
use Rattle.std.specs.Prelude.{◌≡◌, ℕ, ◌-◌, ◌/◌, ℤ, List}
use Rattle.obs_time.specs.Dates.{DateExists, day_of, ns_of_day}
use Rattle.obs_time.specs.DayText.{WrittenDay, SpellsDay, IsMomentOf, day_text, decimal_unit}
use Rattle.obs_time.specs.Calendar.{date_of_day}
use Rattle.obs_time.specs.Rounding.{rounded}

-- the text spells a day that the calendar has, with this many decimals, whose moment is the rounded value
pub record IsTextOf (t : ℤ) (count : ℕ) (text : List ℕ) : Type 0 where
  pub day : WrittenDay
  pub spelled : SpellsDay day text
  pub count_is : day.count ≡ count
  pub exists : DateExists day.date.year day.date.month day.date.day
  pub moment : IsMomentOf day (rounded t (decimal_unit count))

-- the numbers of a moment that is a whole number of units of the last decimal of the day
abbrev pub day_numbers : ℤ → ℕ → WrittenDay
day_numbers t count = record {
  date = date_of_day (day_of t);
  count = count;
  decimals = ns_of_day t / decimal_unit count;
}

-- the text of a moment with this many decimals: the day of the rounded moment, and blanks up to the place of six
unfoldable pub day_text_of : ℤ → ℕ → List ℕ
day_text_of t count = day_text (day_numbers (rounded t (decimal_unit count)) count) (6 - count)
