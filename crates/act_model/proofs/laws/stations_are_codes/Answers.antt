use Rattle.act_model.proofs.Filed.{stations_coded}
use Rattle.act_model.proofs.laws.stations_are_codes.Goals as goal

pub returns : goal.returns
returns c = stations_coded c.lines_in_range.ensures.batch c.lines_in_range-2.ensures.batch c.letters_are_printed.ensures c.stations_are_codes.ensures
