-- The years of the observed moments, and their day numbers.
use Rattle.std.proofs.Common.{subst, sym, rules, to_z, of_z, w16, unsigned_abs, ◌≡◌, ℕ, ◌≤◌, ◌+◌, refl, arith, ℤ, pos, neg_ℤ, ◌≤ℤ◌, ◌<ℤ◌, ◌<◌, ap, ◌∙◌}
use Rattle.std.proofs.lemmas.Int.{by_lt_z}
use Rattle.jiff_core.specs.declared.civil.date.Date.{Date}
use Rattle.jiff_core.specs.Date.{epoch_day}
use Rattle.jiff_core.proofs.DateLemmas.{civil}
use Rattle.obs_time.specs.Dates.{DateExists, IsObservedDay, IsObservedYear, IsCivilOf, day_number, moment}
use Rattle.jiff_core.specs.Calendar.{day_count, days_from_civil, IsCivilDate, IsDate}
use Rattle.jiff_core.proofs.SignedLemmas.{signed_arith, signed_casts}
use Rattle.jiff_core.proofs.MarchLemmas.{day_count-early}
use Rattle.jiff_core.proofs.CalendarLemmas.{days_from_civil-day_count, day_count-lt_year, day_count-day_of_year}
use Rattle.obs_time.specs.Instants.{nanos_of_a_day, IsInstantNs}
use Rattle.obs_time.specs.declared.civil.Civil.{Civil}
use Rattle.obs_time.specs.DateText.{WrittenDate}

-- 1800-01-01 is 62,091 days before 1970-01-01
pub day_count-1800 : day_count (pos 1800) 1 1 + 62_091 ≡ 4_371_953
day_count-1800 = omega (arith, day_count-early (pos 1800) 11799 1 1 refl (omega arith) (omega arith) (omega arith))

-- and 2200-01-01 is 84,006 days after it
pub day_count-2200 : day_count (pos 2200) 1 1 ≡ 84_006 + 4_371_953
day_count-2200 = omega (arith, day_count-early (pos 2200) 12199 1 1 refl (omega arith) (omega arith) (omega arith))

-- a date of a year or of a later one is not before the first day of that year
first_day : (first y : ℤ) (m d : ℕ) → IsCivilDate first 1 1 → IsCivilDate y m d → first ≤ℤ y → day_count first 1 1 ≤ day_count y m d
first_day first y m d begins h from =
    by_lt_z first y
    (λ later. omega (arith, day_count-lt_year first 1 1 y m d begins h.2.0 later))
    (λ le. let e : y ≡ first = omega (arith, signed_arith) in rw e (omega (arith, day_count-day_of_year first m d h.2.0)))

-- a date with the day number of 1800-01-01 or a greater one is in the year 1800 or later
pub year_from_1800 : (y : ℤ) (m d : ℕ) → IsCivilDate y m d → neg_ℤ (pos 62_091) ≤ℤ days_from_civil y m d → pos 1800 ≤ℤ y
year_from_1800 y m d h from =
    by_lt_z y (pos 1800)
    (λ lt. absurd (omega (arith, signed_arith, days_from_civil-day_count, day_count-1800, day_count-lt_year y m d (pos 1800) 1 1 h (omega arith) lt)))
    (λ le. le)

-- a date before 2200-01-01 is in the year 2199 or earlier
pub year_to_2199 : (y : ℤ) (m d : ℕ) → IsCivilDate y m d → days_from_civil y m d ≤ℤ pos 84_005 → y ≤ℤ pos 2199
year_to_2199 y m d h to =
    by_lt_z (pos 2199) y
    (λ lt. absurd (omega (arith, signed_arith, days_from_civil-day_count, day_count-2200, first_day (pos 2200) y m d (search rules) h (omega (arith, signed_arith)))))
    (λ le. le)

-- a date before 2200-01-02 is in the year 2200 or earlier
pub year_to_2200 : (y : ℤ) (m d : ℕ) → IsCivilDate y m d → days_from_civil y m d ≤ℤ pos 84_006 → y ≤ℤ pos 2200
year_to_2200 y m d h to =
    by_lt_z (pos 2200) y
    (λ lt. absurd (omega (arith, signed_arith, days_from_civil-day_count, day_count-2200, day_count-lt_year (pos 2200) 1 1 y m d (search rules) h.2.0 lt)))
    (λ le. le)

-- a year that is not negative comes back from its bits as it was
pub year_kept : (y : ℤ) → pos 0 ≤ℤ y → y ≤ℤ pos 9999 → pos (unsigned_abs (to_z w16 (of_z w16 y))) ≡ y
year_kept y low high = omega (arith, signed_casts)

-- what jiff knows of each date, in the words of this crate
pub date_exists : (d : Date) (y : ℕ) → pos y ≡ d.year → DateExists y d.month d.day
date_exists d y e =
    let given : IsDate d.year (pos d.month) (pos d.day) = (d.year_in, (omega (arith, signed_arith, d.month_in), omega (arith, signed_arith, d.month_in)), (omega (arith, signed_arith, d.day_in), omega (arith, signed_arith, d.day_in))) in
    subst (λ (z : ℤ). IsDate z (pos d.month) (pos d.day)) (sym e) given

-- the years of the observed days, and of the day after them
pub year_of_day : (d : Date) (day : ℤ) → epoch_day d ≡ day → neg_ℤ (pos 62_091) ≤ℤ day → day ≤ℤ pos 84_006 → (pos 1800 ≤ℤ d.year) × (d.year ≤ℤ pos 2200)
year_of_day d day e low high =
    (year_from_1800 d.year d.month d.day (civil d) (rw e low), year_to_2200 d.year d.month d.day (civil d) (rw e high))

-- the day numbers of the observed years
pub observed_day : (y : ℤ) (m d : ℕ) → IsCivilDate y m d → pos 1800 ≤ℤ y → y ≤ℤ pos 2199 → IsObservedDay (days_from_civil y m d)
observed_day y m d h from to =
    let below : y <ℤ pos 2200 = omega (arith, signed_arith) in (
      omega (arith, signed_arith, days_from_civil-day_count, day_count-1800, first_day (pos 1800) y m d (search rules) h from),
      omega (arith, signed_arith, days_from_civil-day_count, day_count-2200, day_count-lt_year y m d (pos 2200) 1 1 h (omega arith) below),
    )

-- a date that the calendar has, in the calendar library's words
pub civil_date : (year month day : ℕ) → DateExists year month day → IsCivilDate (pos year) month day
civil_date year month day exists =
    (exists.0, (omega (arith, signed_arith, exists.1.0), omega (arith, signed_arith, exists.1.1)), (omega (arith, signed_arith, exists.2.0), omega (arith, signed_arith, exists.2.1)))

pub same_parts : (a b : WrittenDate) → a.year ≡ b.year → a.month ≡ b.month → a.day ≡ b.day → a ≡ b
same_parts a b year month day =
    ap (λ (y : ℕ). record { year = y; month = a.month; day = a.day }) year ∙ ap (λ (m : ℕ). record { year = b.year; month = m; day = a.day }) month ∙ ap (λ (d : ℕ). record { year = b.year; month = b.month; day = d }) day

-- a moment in range lies in an observed year
pub year_of_instant : (year month day ns : ℕ) (t : ℤ) → DateExists year month day → ns < nanos_of_a_day → t ≡ moment (day_number year month day) ns → IsInstantNs t → IsObservedYear year
year_of_instant year month day ns t exists below exact range =
    let civil = civil_date year month day exists in
    let low = year_from_1800 (pos year) month day civil (omega (arith, signed_arith, exact, range.0)) in
    let high = year_to_2199 (pos year) month day civil (omega (arith, signed_arith, exact, range.1)) in
    (omega (arith, signed_arith), omega (arith, signed_arith))

-- and a moment of an observed year is in range
pub instant_of_year : (t : ℤ) (civil : Civil) → IsCivilOf t civil → IsObservedYear civil.year → IsInstantNs t
instant_of_year t civil is year =
    let date = civil_date civil.year civil.month civil.day is.date in
    let day = observed_day (pos civil.year) civil.month civil.day date (omega (arith, signed_arith, year.0)) (omega (arith, signed_arith, year.1)) in
    (omega (arith, signed_arith, day.0, is.exact, is.time), omega (arith, signed_arith, day.1, is.exact, is.time))

pub year_of_civil : (t : ℤ) (civil : Civil) → IsCivilOf t civil → IsInstantNs t → IsObservedYear civil.year
year_of_civil t civil is range = year_of_instant civil.year civil.month civil.day civil.ns_of_day t is.date is.time is.exact range

-- what is read from a text is a moment of the observed years
pub in_range : (year month day ns : ℕ) (t : ℤ) → DateExists year month day → IsObservedYear year → ns < nanos_of_a_day
    → t ≡ moment (day_number year month day) ns → IsInstantNs t
in_range year month day ns t exists observed below exact =
    instant_of_year t (record { year = year; month = month; day = day; ns_of_day = ns }) (record { date = exists; time = below; exact = exact }) observed
