use Rattle.act_model.proofs.Filed.{observations_filed}
use Rattle.act_model.proofs.laws.observations_are_filed.Goals as goal

pub returns : goal.returns
returns c = observations_filed c.lines_in_range.ensures.batch c.lines_in_range-2.ensures.batch c.letters_are_printed.ensures c.stations_are_codes.ensures
