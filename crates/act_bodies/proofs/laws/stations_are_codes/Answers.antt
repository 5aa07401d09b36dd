use Rattle.act_bodies.proofs.StationLaws.{station_of-is_code}
use Rattle.act_bodies.proofs.laws.stations_are_codes.Goals as goal

pub returns : goal.returns
returns c = station_of-is_code
