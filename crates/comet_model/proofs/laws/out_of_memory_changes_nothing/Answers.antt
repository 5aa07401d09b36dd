use Rattle.comet_model.proofs.Conducts.{answer_wanting, wanting_leaves}
use Rattle.comet_model.proofs.laws.out_of_memory_changes_nothing.Goals as goal

pub returns-clause-instead : goal.returns-clause-instead
returns-clause-instead c = λ founder limit desk past after request reading refusal. answer_wanting founder limit desk past request reading refusal after

pub returns-clause-stays : goal.returns-clause-stays
returns-clause-stays c = λ founder limit desk past after request reading. wanting_leaves founder limit desk past request reading after
