use Rattle.std.proofs.Common.{sym, ◌∙◌, ◌∷◌}
use Rattle.act_model.specs.Deeds.{deeds}
use Rattle.comet_core.proofs.OverLemmas.{named_again}
use Rattle.comet_core.proofs.laws.longer.Goals as goal

pub returns-clause-over : goal.returns-clause-over
returns-clause-over c = λ register earlier later extends over. record {
  legal = c.longer.ensures.legal register.founder earlier later register.entries extends over.legal;
  comets = over.comets ∙ sym (c.longer.ensures.comets register.founder earlier later register.entries extends over.legal);
}

pub returns-clause-ready : goal.returns-clause-ready
returns-clause-ready c = λ register ready earlier later extends over legal at. record {
  named =
      named_again (deeds earlier) (deeds later) register over ready at
      (c.longer.ensures.comets register.founder earlier later register.entries extends over.legal)
      (c.longer.ensures.comets register.founder earlier later (ready.entry ∷ register.entries) extends legal);
  answer = at.answer ∙ sym (c.longer.ensures.answers register.founder earlier later ready.entry register.entries extends legal);
}
