use Rattle.angle_fixed.proofs.Ranges.{time_within, arc_within, ra_degrees_within, dec_degrees_within}
use Rattle.angle_fixed.proofs.laws.angles_in_range.Goals as goal

pub returns : goal.returns
returns c = record { time = time_within; arc = arc_within; ra_degrees = ra_degrees_within; dec_degrees = dec_degrees_within }
