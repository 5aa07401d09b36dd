use Rattle.comet_model.proofs.Conducts.{conduct_extends}
use Rattle.comet_model.proofs.laws.registers_grow.Goals as goal

pub returns : goal.returns
returns c = λ founder limit desk before after turns. conduct_extends founder limit desk before turns after
