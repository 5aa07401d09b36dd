-- A day as a word: a date `YYYY-MM-DD` of the Gregorian calendar and of the years 1800 to 2199.
use Rattle.std.specs.Prelude.{ℕ, ℤ, List, Option}
use Rattle.std.specs.Result.{result_ok}
use Rattle.obs_time.specs.DateText.{date_of}

-- the day that a word spells, as days from 1970-01-01
abbrev pub day_in : List ℕ → Option ℤ
day_in text = result_ok (date_of text)
