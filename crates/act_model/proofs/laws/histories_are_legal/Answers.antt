use Rattle.std.proofs.Common.{[]}
use Rattle.act_model.specs.Turns.{at_rest}
use Rattle.act_model.proofs.Legal.{legal_step, legal_conduct}
use Rattle.act_model.proofs.laws.histories_are_legal.Goals as goal

pub returns-clause-step : goal.returns-clause-step
returns-clause-step c = λ founder limit past after request reading reply. legal_step founder limit past request reading reply after

pub returns-clause-conduct : goal.returns-clause-conduct
returns-clause-conduct c = λ founder limit before after turns. legal_conduct founder limit before turns after

pub returns-clause-from_nothing : goal.returns-clause-from_nothing
returns-clause-from_nothing c = λ founder limit after turns. legal_conduct founder limit (at_rest []) turns after (tt, tt)
