use Rattle.comet_model.proofs.Acknowledged.{kept_stays, turn_acknowledges, step_answers, answered_on, answered_again}
use Rattle.comet_model.proofs.laws.acknowledged_acts_are_kept.Goals as goal

pub returns-clause-turn : goal.returns-clause-turn
returns-clause-turn c = λ founder limit desk before after turn text is act reply. turn_acknowledges founder limit desk before turn after text act reply is

pub returns-clause-later : goal.returns-clause-later
returns-clause-later c = λ founder desk earlier later number k. kept_stays founder desk earlier later number k

pub returns-clause-again : goal.returns-clause-again
returns-clause-again c = λ founder limit other desk past after later request first again text act is legal extends.
    answered_again founder desk request text later (answered_on founder desk request text after later (step_answers founder limit desk past request first text after act is) legal extends) other again
