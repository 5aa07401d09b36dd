use Rattle.act_bodies.proofs.CodeLaws.{code_of-is_letter}
use Rattle.act_bodies.proofs.laws.letters_are_printed.Goals as goal

pub returns : goal.returns
returns c = code_of-is_letter
