use Rattle.obs_time.proofs.DayLaws.{day_in_range}
use Rattle.obs_time.proofs.IsoLaws.{iso_in_range}
use Rattle.obs_time.proofs.laws.moments_in_range.Goals as goal

pub returns-clause-day : goal.returns-clause-day
returns-clause-day c = day_in_range

pub returns-clause-iso : goal.returns-clause-iso
returns-clause-iso c = iso_in_range
