use Rattle.act_model.proofs.Conducts.{works_within}
use Rattle.act_model.proofs.Hearing.{deed_is}
use Rattle.act_model.proofs.laws.deeds_are_worked_out_once.Goals as goal

pub returns-clause-deed : goal.returns-clause-deed
returns-clause-deed c = λ bytes heard past moment deed. deed_is bytes heard past moment deed

pub returns-clause-within : goal.returns-clause-within
returns-clause-within c = λ limit past bytes moment heard deed is. (works_within limit past bytes moment heard deed is).0
