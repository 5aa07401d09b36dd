use Rattle.act_model.specs.Turns.{at_rest}
use Rattle.comet_model.proofs.Conducts.{rest_conduct, answered_steps}
use Rattle.comet_model.proofs.DiskFaults.{conduct_knows_no_disk}
use Rattle.comet_model.proofs.laws.no_faults.Goals as goal

pub returns-clause-settled : goal.returns-clause-settled
returns-clause-settled c = λ founder limit desk past after turns conduct none. (rest_conduct founder limit desk past turns after conduct none).1

pub returns-clause-answered : goal.returns-clause-answered
returns-clause-answered c = λ founder limit desk past after turns conduct none. (rest_conduct founder limit desk past turns after conduct none).0

pub returns-clause-none : goal.returns-clause-none
returns-clause-none c = λ founder limit desk past after turns conduct none. conduct_knows_no_disk founder limit desk (at_rest past) turns after conduct none

pub returns-clause-stepped : goal.returns-clause-stepped
returns-clause-stepped c =
    λ founder limit desk past after turns conduct none had. answered_steps founder limit desk past turns after.settled (rest_conduct founder limit desk past turns after conduct none).0 had
