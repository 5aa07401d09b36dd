use Rattle.http_connection.proofs.Turned.{taken}
use Rattle.http_connection.proofs.answering.answer_one.Goals as goal

pub returns-clause-call : goal.returns-clause-call
returns-clause-call g c =
    taken c.call_laws.ensures c.disk_faults_have_a_cause.ensures.step c.args.pass.view c.enter-turn.ensures.pass.0 c.enter-turn.result.office c.take_turn-reply.new.turn.office c.enter-turn.result.items c.take_turn-reply.new.turn.items c.args.request.now c.take_turn-reply.result
    _ _ c.enter-turn.ensures.office.0 c.enter-turn.ensures.office.1 c.enter-turn.ensures.grows c.enter-turn.ensures.stamps c.enter-turn.ensures.items c.take_turn-reply.ensures.call
    c.enter-turn.result.view c.take_turn-reply.new.turn.view c.leave.result.view c.enter-turn.ensures.pass.1 c.take_turn-reply.ensures.view c.leave.ensures.pass
