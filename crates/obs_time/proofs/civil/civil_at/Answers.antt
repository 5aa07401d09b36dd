use Rattle.std.proofs.Common.{ap, ◌∙◌, refl, arith, ◌≡◌}
use Rattle.jiff_core.specs.Date.{epoch_day}
use Rattle.jiff_core.proofs.SignedLemmas.{signed_arith, signed_casts}
use Rattle.jiff_core.proofs.DateLemmas.{civil}
use Rattle.obs_time.specs.Calendar.{date_of_day}
use Rattle.obs_time.specs.Dates.{moment}
use Rattle.obs_time.proofs.CalendarLaws.{date_of_moment, day_of_moment}
use Rattle.obs_time.proofs.YearLaws.{year_of_day, year_to_2199, year_kept, date_exists}
use Rattle.obs_time.proofs.civil.civil_at.Goals as goal

pub overflow_cast-result : goal.overflow_cast-result
overflow_cast-result c =
    let d = c.from_days_since_min-date.result in
    let years = year_of_day d c.args.day (omega (arith, signed_casts)) c.requires.days.0 c.requires.days.1 in
    (omega (arith, signed_casts), omega (arith, signed_casts))

pub returns-clause-civil : goal.returns-clause-civil
returns-clause-civil c =
    let d = c.from_days_since_min-date.result in
    let same : epoch_day d ≡ c.args.day = omega (arith, signed_casts) in
    let years = year_of_day d c.args.day same c.requires.days.0 c.requires.days.1 in
    let kept = year_kept d.year (omega (arith, signed_arith)) (omega (arith, signed_arith)) in
    record {
      date = date_exists d _ kept;
      time = c.requires.time;
      exact = rw (kept, same) refl;
    }

pub returns-clause-year : goal.returns-clause-year
returns-clause-year c =
    let d = c.from_days_since_min-date.result in
    let years = year_of_day d c.args.day (omega (arith, signed_casts)) c.requires.days.0 c.requires.days.1 in
    (omega (arith, signed_casts), omega (arith, signed_casts))

pub returns-clause-date : goal.returns-clause-date
returns-clause-date c =
    let year = returns-clause-year c in
    date_of_moment (moment c.args.day c.args.ns_of_day) _ (returns-clause-civil c) year.0 year.1 ∙ ap date_of_day (day_of_moment c.args.day c.args.ns_of_day c.requires.time)

pub returns-clause-before_2200 : goal.returns-clause-before_2200
returns-clause-before_2200 c = λ before.
    let d = c.from_days_since_min-date.result in
    let same : epoch_day d ≡ c.args.day = omega (arith, signed_casts) in
    let years = year_of_day d c.args.day same c.requires.days.0 c.requires.days.1 in
    let last = year_to_2199 d.year d.month d.day (civil d) (rw same before) in
    omega (arith, signed_casts)
