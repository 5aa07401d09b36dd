use Rattle.act_model.proofs.Conducts.{refusal_leaves}
use Rattle.act_model.proofs.laws.a_refusal_changes_nothing.Goals as goal

pub returns : goal.returns
returns c = λ founder limit past after request reading refusal. refusal_leaves founder limit past request reading refusal after
