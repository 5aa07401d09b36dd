use Rattle.std.proofs.Common.{Some, [], ◌∷◌, refl}
use Rattle.act_model.specs.Deeds.{deeds}
use Rattle.comet_desk.proofs.Turned.{once_either}
use Rattle.comet_desk.proofs.desk.CometDesk.act.Goals as goal

pub returns-clause-once : goal.returns-clause-once
returns-clause-once g c =
    let new = c.mend_and_act.new.self in
    once_either (c.numbers_once.ensures.legal new.founder (deeds (g.V.Shelf.history c.args.shelf.now))) new.state c.mend_and_act.ensures.beside.legal

pub returns-clause-names : goal.returns-clause-names
returns-clause-names g c = c.unbroken_names.ensures (deeds (g.V.Shelf.history c.args.shelf.now)) c.mend_and_act.new.self.state.settled

pub returns-clause-grows : goal.returns-clause-grows
returns-clause-grows g c =
    let old = c.args.self.now in
    let new = c.mend_and_act.new.self in
    c.registers_grow.ensures old.founder (Some old.limit) (deeds (g.V.Shelf.history c.args.shelf.now)) old.state new.state (_ ∷ []) (new.state, c.mend_and_act.ensures.turn.turn, refl)

pub returns-clause-event : goal.returns-clause-event
returns-clause-event g c = record {
  act = c.requires.act;
  turn = c.mend_and_act.ensures.turn;
  inside = c.mend_and_act.ensures.inside;
  at_rest = c.mend_and_act.ensures.at_rest;
  founder = c.mend_and_act.ensures.founder;
  limit = c.mend_and_act.ensures.limit;
}
