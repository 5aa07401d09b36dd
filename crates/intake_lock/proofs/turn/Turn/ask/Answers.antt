use Rattle.std.proofs.Common.{None, ap, ◌∙◌}
use Rattle.intake_lock.proofs.Turns.{taken, called_noted, noted_from}
use Rattle.intake_lock.proofs.turn.Turn.ask.Goals as goal

pub note_call-requires-clause-call : goal.note_call-requires-clause-call
note_call-requires-clause-call g c =
    rw c.of-before.ensures
    (taken (g.V.Keeper.office c.self.inside.keeper) c.args.request.now None c.ask-reply.result (g.V.Keeper.office c.self.inside.keeper) c.ask-reply.ensures.turn)

pub invariant_of-self : goal.invariant_of-self
invariant_of-self g c = (
  c.self.invariant.0,
  c.self.invariant.1,
  c.self.invariant.2,
  called_noted c.self.inside.seat.me.0.office (g.V.Keeper.office c.self.inside.keeper) c.args.request.now None c.ask-reply.result (g.V.Keeper.office c.self.inside.keeper) c.self.inside.log.view c.note_call.new.log.view c.self.invariant.3
      (noted_from (g.V.Keeper.office c.of-before.result.value) (g.V.Keeper.office c.self.inside.keeper) c.args.request.now None c.ask-reply.result (g.V.Keeper.office c.self.inside.keeper) c.self.inside.log.view c.note_call.new.log.view (ap g.V.Keeper.office c.of-before.ensures) c.note_call.ensures.noted),
  c.note_call.ensures.place ∙ c.self.invariant.4,
)

pub returns-clause-call : goal.returns-clause-call
returns-clause-call g c =
    rw (← c.self.view_is)
    (noted_from (g.V.Keeper.office c.of-before.result.value) (g.V.Keeper.office c.self.inside.keeper) c.args.request.now None c.ask-reply.result (g.V.Keeper.office c.self.inside.keeper) c.self.inside.log.view c.note_call.new.log.view (ap g.V.Keeper.office c.of-before.ensures) c.note_call.ensures.noted)
