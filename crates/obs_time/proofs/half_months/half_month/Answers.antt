use Rattle.std.proofs.Common.{◌∙◌, sym, ap}
use Rattle.obs_time.specs.Calendar.{half_of, half_month_of}
use Rattle.obs_time.proofs.CalendarLaws.{same_civil_date}
use Rattle.obs_time.proofs.half_months.half_month.Goals as goal

pub returns-clause-exact : goal.returns-clause-exact
unfolding half_month_of
returns-clause-exact c = c.half_of.ensures.half ∙ ap half_of c.civil_of.ensures.date

pub returns-clause-half : goal.returns-clause-half
returns-clause-half c = λ civil is.
    c.half_of.ensures.half ∙ ap half_of (c.civil_of.ensures.date ∙ sym (same_civil_date c.args.t c.civil_of.result civil c.civil_of.ensures.civil c.civil_of.ensures.year is))
