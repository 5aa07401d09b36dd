use Rattle.comet_model.proofs.Steps.{refusal_leaves}
use Rattle.comet_model.proofs.laws.a_refusal_changes_nothing.Goals as goal

pub returns : goal.returns
returns c = λ founder limit desk past after request reading refusal. refusal_leaves founder limit desk past request reading refusal after
