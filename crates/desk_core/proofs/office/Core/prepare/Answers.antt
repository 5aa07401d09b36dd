use Rattle.desk_core.specs.Office.{Room}
use Rattle.desk_core.specs.declared.prepared.Prep.TheVariants as prep
use Rattle.desk_core.proofs.Steps.{outcome_no_room, no_room_prep, taken_prep, refused_prep}
use Rattle.desk_core.proofs.office.Core.prepare.Goals as goal

pub returns-in-Ok-clause-no_room : goal.returns-in-Ok-clause-no_room
returns-in-Ok-clause-no_room c =
    λ none. no_room_prep c.args.limit c.args.self.now.history _ _ c.in-Ok.prep (outcome_no_room c.args.self.now.founder c.args.limit c.args.self.now.history c.args.request.now c.args.reading none) c.in-Ok.ensures.answer

none_left : Room
none_left = record { entries = 0; callers = 0; observations = 0; tracklets = 0; rows = 0; links = 0; register = 0 }

pub returns-in-Err-clause-no_room : goal.returns-in-Err-clause-no_room
returns-in-Err-clause-no_room c =
    λ none. no_room_prep c.args.limit c.args.self.now.history _ none_left (prep.Refused c.in-Err.refusal) (outcome_no_room c.args.self.now.founder c.args.limit c.args.self.now.history c.args.request.now c.args.reading none) c.in-Err.ensures.answer

pub returns-in-Ok-clause-announced : goal.returns-in-Ok-clause-announced
returns-in-Ok-clause-announced c = taken_prep _ c.in-Ok.prep c.in-Ok.ensures.announced

pub returns-in-Err-clause-announced : goal.returns-in-Err-clause-announced
returns-in-Err-clause-announced c = refused_prep _ c.in-Err.refusal c.in-Err.ensures.announced
