use Rattle.comet_model.proofs.Conducts.{refusal_mends}
use Rattle.comet_model.proofs.laws.a_refusal_only_mends.Goals as goal

pub returns : goal.returns
returns c = λ founder limit desk before after turn refusal. refusal_mends founder limit desk before after turn refusal
