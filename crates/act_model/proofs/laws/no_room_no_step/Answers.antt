use Rattle.act_model.proofs.Conducts.{no_room, no_room_turn}
use Rattle.act_model.proofs.laws.no_room_no_step.Goals as goal

pub returns-clause-step : goal.returns-clause-step
returns-clause-step c = λ founder limit past request reading. no_room founder limit past request reading

pub returns-clause-turn : goal.returns-clause-turn
returns-clause-turn c = λ founder limit past after request reading reply. no_room_turn founder limit past request reading reply after
