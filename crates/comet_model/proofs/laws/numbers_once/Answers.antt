use Rattle.comet_model.proofs.Legal.{legal_once}
use Rattle.comet_model.proofs.Conducts.{conduct_once}
use Rattle.comet_model.proofs.laws.numbers_once.Goals as goal

pub returns-clause-legal : goal.returns-clause-legal
returns-clause-legal c = λ founder desk entries. legal_once founder desk entries

pub returns-clause-conduct : goal.returns-clause-conduct
returns-clause-conduct c = λ founder limit desk before after turns conduct once. conduct_once founder limit desk before turns after conduct once
