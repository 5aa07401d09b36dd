use Rattle.act_model.proofs.Conducts.{refusal_mends}
use Rattle.act_model.proofs.laws.a_refusal_only_mends.Goals as goal

pub returns : goal.returns
returns c = λ founder limit before after turn refusal. refusal_mends founder limit before after turn refusal
