use Rattle.act_model.proofs.Letters.{letters_printed}
use Rattle.act_model.proofs.laws.letters_are_printed.Goals as goal

pub returns : goal.returns
returns c = letters_printed c.lines_in_range.ensures.batch c.lines_in_range-2.ensures.batch c.letters_are_printed.ensures c.stations_are_codes.ensures
