use Rattle.comet_model.proofs.Steps.{no_room}
use Rattle.comet_model.proofs.Conducts.{no_room_turn}
use Rattle.comet_model.proofs.laws.no_room_no_step.Goals as goal

pub returns-clause-step : goal.returns-clause-step
returns-clause-step c = λ founder limit desk past request reading. no_room founder limit desk past request reading

pub returns-clause-turn : goal.returns-clause-turn
returns-clause-turn c = λ founder limit desk past after request reading reply. no_room_turn founder limit desk past request reading reply after
