-- The date of a day number is the one date that has it.
use Rattle.std.proofs.Common.{◌≡◌, ℕ, zero, suc, ◌+◌, ◌-◌, ◌<◌, ◌≤◌, inl, inr, true, false, sym, ap, subst, ◌∙◌, arith, ℤ, pos, ◌≤ℤ◌, ◌<ℤ◌, ◌-ℤ◌, unsigned_abs}
use Rattle.std.specs.Int.Signed.{le_z}
use Rattle.std.proofs.lemmas.Bool.{cases_order, cond-true, cond-false}
use Rattle.std.proofs.lemmas.Int.{ints}
use Rattle.jiff_core.proofs.SignedLemmas.{signed_arith}
use Rattle.jiff_core.proofs.CalendarLemmas.{days_from_civil-day_count, day_count-lt_year, day_count-lt_month, day_count-day_of_year, day_count-day}
use Rattle.obs_time.specs.declared.civil.Civil.{Civil}
use Rattle.obs_time.specs.Instants.{nanos_of_a_day}
use Rattle.obs_time.specs.Dates.{DateExists, IsObservedYear, IsCivilOf, day_number, day_of, ns_of_day, moment}
use Rattle.obs_time.specs.DateText.{WrittenDate}
use Rattle.obs_time.specs.Calendar.{last_begun, year_of, month_of, date_of_day}
use Rattle.obs_time.specs.Written.{date_part}
use Rattle.obs_time.proofs.YearLaws.{civil_date, same_parts, instant_of_year, year_of_civil}

begun_is_true : (a b : ℤ) → a ≤ℤ b → le_z a b ≡ true
begun_is_true a b h = grind (arith, ints)

begun_is_false : (a b : ℤ) → b <ℤ a → le_z a b ≡ false
begun_is_false a b h = grind (arith, ints)

-- a number that has begun, and none after it, is the last
last_begun_is : (begins : ℕ → ℤ) (day : ℤ) (first more k : ℕ) → first ≤ k → k ≤ first + more → begins k ≤ℤ day → ((j : ℕ) → k < j → j ≤ first + more → day <ℤ begins j) → last_begun begins day first more ≡ k
unfolding last_begun
last_begun_is begins day first zero k low high begun later = omega arith
last_begun_is begins day first (suc more) k low high begun later =
    elim (cases_order k (first + suc more)) [
      | inl last ↦ cond-true (le_z (begins (first + suc more)) day) (first + suc more) (last_begun begins day first more) (begun_is_true (begins (first + suc more)) day (subst (λ (j : ℕ). begins j ≤ℤ day) last begun)) ∙ sym last
      | inr (inl before) ↦ cond-false (le_z (begins (first + suc more)) day) (first + suc more) (last_begun begins day first more) (begun_is_false (begins (first + suc more)) day (later (first + suc more) before (omega arith)))
          ∙ last_begun_is begins day first more k low (omega arith) begun (λ j above within. later j above (omega arith))
      | inr (inr after) ↦ absurd (omega arith)
    ]

year_is : (year month day : ℕ) → DateExists year month day → 1800 ≤ year → year ≤ 2200 → year_of (day_number year month day) ≡ year
unfolding year_of
year_is year month day exists low high =
    let civil = civil_date year month day exists in
    last_begun_is (λ y. day_number y 1 1) (day_number year month day) 1800 400 year low high
    (omega (arith, signed_arith, days_from_civil-day_count, day_count-day_of_year (pos year) month day civil.2.0, civil.2.0))
    (λ j later within. omega (arith, signed_arith, days_from_civil-day_count, day_count-lt_year (pos year) month day (pos j) 1 1 civil (omega arith) (omega (arith, signed_arith))))

month_is : (year month day : ℕ) → DateExists year month day → year_of (day_number year month day) ≡ year → month_of (day_number year month day) ≡ month
unfolding month_of
month_is year month day exists year_is =
    let civil = civil_date year month day exists in
    rw year_is (last_begun_is (λ m. day_number year m 1) (day_number year month day) 1 11 month civil.1.0 civil.1.1
    (omega (arith, signed_arith, days_from_civil-day_count, day_count-day (pos year) month day 1 civil.2.0 (omega arith), civil.2.0))
    (λ j later within. omega (arith, signed_arith, days_from_civil-day_count, day_count-lt_month (pos year) month day j 1 civil (omega arith) later)))

-- the date with a day number is that of the day number
pub date_of_day_number : (date : WrittenDate) → DateExists date.year date.month date.day → 1800 ≤ date.year → date.year ≤ 2200 → date ≡ date_of_day (day_number date.year date.month date.day)
unfolding date_of_day
date_of_day_number date exists low high =
    let civil = civil_date date.year date.month date.day exists in
    let year = year_is date.year date.month date.day exists low high in
    let month = month_is date.year date.month date.day exists year in
    let number = day_number date.year date.month date.day in
    let first : number -ℤ day_number date.year date.month 1 ≡ pos (date.day - 1) = omega (arith, signed_arith, days_from_civil-day_count, day_count-day (pos date.year) date.month date.day 1 civil.2.0 (omega arith), civil.2.0) in
    let day : unsigned_abs (number -ℤ day_number date.year date.month 1) + 1 ≡ date.day = rw first (omega (arith, civil.2.0)) in
    same_parts date (date_of_day number) (sym year) (sym month) (sym (rw (year, month) day))

-- the day that a moment lies in
pub day_of_moment : (day : ℤ) (ns : ℕ) → ns < nanos_of_a_day → day_of (moment day ns) ≡ day
day_of_moment day ns below = omega (arith, signed_arith)

-- and the nanoseconds of that day before it
pub ns_of_moment : (day : ℤ) (ns : ℕ) → ns < nanos_of_a_day → ns_of_day (moment day ns) ≡ ns
ns_of_moment day ns below = omega (arith, signed_arith)

-- the date of a moment
pub date_of_moment : (t : ℤ) (civil : Civil) → IsCivilOf t civil → 1800 ≤ civil.year → civil.year ≤ 2200 → date_part civil ≡ date_of_day (day_of t)
date_of_moment t civil is low high =
    let day : day_of t ≡ day_number civil.year civil.month civil.day = ap day_of is.exact ∙ day_of_moment (day_number civil.year civil.month civil.day) civil.ns_of_day is.time in
    date_of_day_number (date_part civil) is.date low high ∙ ap date_of_day (sym day)

-- two dates and times of one moment in range have one date
pub same_civil_date : (t : ℤ) (civil other : Civil) → IsCivilOf t civil → IsObservedYear civil.year → IsCivilOf t other → date_part other ≡ date_of_day (day_of t)
same_civil_date t civil other is year is_other =
    let range = instant_of_year t civil is year in
    let observed = year_of_civil t other is_other range in
    date_of_moment t other is_other (omega (arith, observed.0)) (omega (arith, observed.1))
