use Rattle.act_bodies.proofs.OpeningLaws.{opening_of-is_opening}
use Rattle.act_bodies.proofs.laws.openings_are_in_range.Goals as goal

pub returns : goal.returns
returns c = opening_of-is_opening
