use Rattle.act_model.specs.Deeds.{deeds}
use Rattle.comet_core.proofs.AskLemmas.{answers_done, answers_refused}
use Rattle.comet_core.proofs.register.Register.ask.Goals as goal

pub returns-in-Ok-clause-answer : goal.returns-in-Ok-clause-answer
returns-in-Ok-clause-answer g c = λ limit reading.
    answers_done c.args.self.now.founder limit (deeds (g.V.Shelf.history c.args.shelf.now)) c.args.self.now.entries c.args.request.now reading c.in-Ok.text (c.in-Ok.ensures.told limit reading)

pub returns-in-Err-clause-answer : goal.returns-in-Err-clause-answer
returns-in-Err-clause-answer g c = λ limit reading.
    answers_refused c.args.self.now.founder limit (deeds (g.V.Shelf.history c.args.shelf.now)) c.args.self.now.entries c.args.request.now reading c.in-Err.refusal (c.in-Err.ensures.told limit reading)
