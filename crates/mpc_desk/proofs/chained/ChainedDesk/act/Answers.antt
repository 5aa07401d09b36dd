use Rattle.std.proofs.Common.{Some, [], ◌∷◌, refl}
use Rattle.mpc_desk.proofs.chained.ChainedDesk.act.Goals as goal

pub returns-clause-lines : goal.returns-clause-lines
returns-clause-lines g c =
    let old = c.args.self.now in
    let new = c.mend_and_act.new.self in
    c.lines_are_added.ensures old.state.settled new.state.settled
    (c.histories_grow.ensures old.founder (Some old.limit) old.state new.state (_ ∷ []) (new.state, c.mend_and_act.ensures.turn.turn, refl))

pub returns-clause-places : goal.returns-clause-places
returns-clause-places g c = c.one_place.ensures c.mend_and_act.new.self.state.settled

pub returns-clause-rows : goal.returns-clause-rows
returns-clause-rows g c = c.unbroken_rows.ensures c.mend_and_act.new.self.state.settled

pub returns-clause-numbers : goal.returns-clause-numbers
returns-clause-numbers g c = c.unbroken_numbers.ensures c.mend_and_act.new.self.state.settled

pub returns-clause-event : goal.returns-clause-event
returns-clause-event g c = record {
  act = c.requires.act;
  turn = c.mend_and_act.ensures.turn;
  inside = c.mend_and_act.ensures.inside;
  at_rest = c.mend_and_act.ensures.at_rest;
  founder = c.mend_and_act.ensures.founder;
  limit = c.mend_and_act.ensures.limit;
}
