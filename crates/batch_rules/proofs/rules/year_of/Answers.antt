use Rattle.std.proofs.Common.{ap}
use Rattle.obs_time.specs.Calendar.{date_of_day}
use Rattle.obs_time.specs.DateText.{WrittenDate}
use Rattle.batch_rules.proofs.rules.year_of.Goals as goal

pub returns : goal.returns
unfolding date_of_day
returns c = ap (λ (date : WrittenDate). date.year) c.civil_of.ensures.date
