use Rattle.std.proofs.Common.{[]}
use Rattle.act_model.specs.Turns.{at_rest}
use Rattle.comet_model.proofs.Legal.{legal_step, legal_added}
use Rattle.comet_model.proofs.Conducts.{conduct_holds}
use Rattle.comet_model.specs.Legal.{IsLegal}
use Rattle.comet_model.proofs.laws.registers_are_legal.Goals as goal

pub returns-clause-step : goal.returns-clause-step
returns-clause-step c = λ founder limit desk past after request reading reply. legal_step founder desk limit past request reading reply after

pub returns-clause-conduct : goal.returns-clause-conduct
returns-clause-conduct c = λ founder limit desk before after turns here conduct. conduct_holds founder limit desk (IsLegal founder desk) (legal_added founder desk limit) before turns after here conduct

pub returns-clause-from_nothing : goal.returns-clause-from_nothing
returns-clause-from_nothing c = λ founder limit desk after turns conduct. conduct_holds founder limit desk (IsLegal founder desk) (legal_added founder desk limit) (at_rest []) turns after (tt, tt) conduct
