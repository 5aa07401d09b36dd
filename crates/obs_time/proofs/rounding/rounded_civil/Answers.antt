use Rattle.std.proofs.Common.{arith, ◌≡◌, ◌∙◌, ap, subst, ℤ}
use Rattle.jiff_core.proofs.SignedLemmas.{signed_casts}
use Rattle.obs_time.specs.Dates.{IsCivilOf, day_of}
use Rattle.obs_time.specs.Calendar.{date_of_day}
use Rattle.obs_time.specs.DayText.{decimal_unit}
use Rattle.obs_time.specs.Rounding.{rounded}
use Rattle.obs_time.proofs.rounding.rounded_civil.Goals as goal

pub returns-clause-civil : goal.returns-clause-civil
returns-clause-civil c =
    let same : c.rounded-ns.result ≡ rounded c.args.t (decimal_unit c.args.count) = c.rounded-ns.ensures.value in
    subst (λ (t : ℤ). IsCivilOf t c.civil_at.result) (omega (arith, signed_casts) ∙ same) c.civil_at.ensures.civil

pub returns-clause-date : goal.returns-clause-date
returns-clause-date c =
    let same : c.rounded-ns.result ≡ rounded c.args.t (decimal_unit c.args.count) = c.rounded-ns.ensures.value in
    c.civil_at.ensures.date ∙ ap date_of_day (omega (arith, signed_casts) ∙ ap day_of same)
