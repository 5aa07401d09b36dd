use Rattle.act_bodies.proofs.NumberLaws.{number_of_body-first}
use Rattle.act_bodies.proofs.laws.first_numbers_are_numbers.Goals as goal

pub returns : goal.returns
returns c = number_of_body-first
