use Rattle.act_model.proofs.Legal.{kept_stays, answered_again}
use Rattle.act_model.proofs.laws.kept_replies_stay.Goals as goal

pub returns-clause-entry : goal.returns-clause-entry
returns-clause-entry c = λ founder earlier later caller number k. kept_stays founder earlier later caller number k

pub returns-clause-resend : goal.returns-clause-resend
returns-clause-resend c = λ founder limit other past later request first again text entry. answered_again founder limit other past request first again text entry later
