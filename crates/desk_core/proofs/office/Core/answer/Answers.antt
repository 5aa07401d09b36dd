use Rattle.std.proofs.Common.{pos, None}
use Rattle.desk_core.proofs.Steps.{answers_told, answers_refused}
use Rattle.desk_core.proofs.office.Core.answer.Goals as goal

pub returns-in-Ok-clause-answer : goal.returns-in-Ok-clause-answer
returns-in-Ok-clause-answer c = λ limit reading. answers_told c.args.self.now.founder limit c.args.self.now.history c.args.request.now reading c.in-Ok.text (c.in-Ok.ensures.told limit reading)

pub returns-in-Err-clause-answer : goal.returns-in-Err-clause-answer
returns-in-Err-clause-answer c = λ limit reading. answers_refused c.args.self.now.founder limit c.args.self.now.history c.args.request.now reading c.in-Err.refusal (c.in-Err.ensures.told limit reading)

pub returns-in-Ok-clause-no_room : goal.returns-in-Ok-clause-no_room
returns-in-Ok-clause-no_room c = λ none. (c.no_room_no_step.ensures.turn _ None _ _ _ (pos 0) _ none (answers_told c.args.self.now.founder None c.args.self.now.history c.args.request.now (pos 0) c.in-Ok.text (c.in-Ok.ensures.told None (pos 0)))).0

pub returns-in-Err-clause-no_room : goal.returns-in-Err-clause-no_room
returns-in-Err-clause-no_room c = λ none. (c.no_room_no_step.ensures.turn _ None _ _ _ (pos 0) _ none (answers_refused c.args.self.now.founder None c.args.self.now.history c.args.request.now (pos 0) c.in-Err.refusal (c.in-Err.ensures.told None (pos 0)))).0

pub returns-in-Ok-clause-refused : goal.returns-in-Ok-clause-refused
returns-in-Ok-clause-refused c = λ limit reading refusal is. let same = c.in-Ok.ensures.refused limit reading refusal is in absurd cc

pub returns-in-Err-clause-refused : goal.returns-in-Err-clause-refused
returns-in-Err-clause-refused c = λ limit reading refusal is. let same = c.in-Err.ensures.refused limit reading refusal is in cc
