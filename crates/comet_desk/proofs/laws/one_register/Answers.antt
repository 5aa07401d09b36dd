use Rattle.comet_desk.proofs.OneRegister.{one_list, holds_stands}
use Rattle.comet_desk.proofs.laws.one_register.Goals as goal

pub returns-clause-one : goal.returns-clause-one
returns-clause-one c = one_list c.one_history.ensures.second

pub returns-clause-stands : goal.returns-clause-stands
returns-clause-stands c = holds_stands c.one_chain.ensures.in_force
