use Rattle.std.proofs.Common.{◌≡◌, ℕ, ◌<◌, arith, refl, subst, ◌∙◌}
use Rattle.http_connection.specs.declared.TheConstants.{ANSWERS}
use Rattle.http_connection.specs.Attending.{ReadCounts, WriteCounts}
use Rattle.http_connection.proofs.Progress.{progress_none, ends_unbegun, ends_enough, goes_with, ends_with, goes_counted, ends_counted, goes_written, ends_written, none_of, complete}
use Rattle.http_connection.proofs.attending.attend.Goals as goal

pub returns-in_default-clause-attended : goal.returns-in_default-clause-attended
returns-in_default-clause-attended g c = ends_unbegun _ _ _

pub messages-init : goal.messages-init
messages-init g c =
    record {
      progress = progress_none _ _ _ c.in-Ok.wire c.in-Ok.ensures;
      lock = refl;
      id = refl;
      role = refl;
      source_faultless = refl;
      sink_faultless = refl;
      source_stays = refl;
      sink_stays = refl;
    }

pub returns-in-Some-clause-attended : goal.returns-in-Some-clause-attended
returns-in-Some-clause-attended g c =
    let few : c.messages.answered < ANSWERS = omega arith in
    ends_with _ _ _ c.stream_laws.ensures c.call_laws.ensures _ c.messages.wire c.messages.answered c.messages.invariant.progress
    few c.read_request-heard.new.source c.read_request-heard.ensures.came.0 c.read_request-heard.ensures.came.1 c.read_request-heard.new.self _
    c.read_request-heard.result c.answer_heard-next.result.1 c.in-Some.left c.in-Some.is c.read_request-heard.ensures.came.2 c.answer_heard-next.ensures.becomes

pub returns-in-Some-clause-complete : goal.returns-in-Some-clause-complete
returns-in-Some-clause-complete g c =
    let few : c.messages.answered < ANSWERS = omega arith in
    let now = g.S.Source.faults c.read_request-heard.new.source in
    let written = g.K.Sink.faults c.answer_heard-next.new.sink in
    let read : ReadCounts c.in-Some.left (g.S.Source.faults c.args.source.now) now =
    subst (λ (n : ℕ). ReadCounts c.in-Some.left n now) c.messages.invariant.source_faultless
    (ends_counted _ _ _ _ _ c.read_request-heard.result c.answer_heard-next.result.1 c.in-Some.left c.in-Some.is c.answer_heard-next.ensures.becomes c.read_request-heard.ensures.faults) in
    let wrote : WriteCounts c.in-Some.left (g.K.Sink.faults c.args.sink.now) written =
    subst (λ (n : ℕ). WriteCounts c.in-Some.left n written) c.messages.invariant.sink_faultless
    (ends_written c.answer_heard-next.result.1 c.in-Some.left (g.K.Sink.faults c.messages.sink) written c.in-Some.is c.answer_heard-next.ensures.faults) in
    λ bytes. complete _ _ _ _ c.one_stream.ensures bytes c.in-Some.left _ _ _ _
    (ends_with _ _ _ c.stream_laws.ensures c.call_laws.ensures _ c.messages.wire c.messages.answered c.messages.invariant.progress
    few c.read_request-heard.new.source c.read_request-heard.ensures.came.0 c.read_request-heard.ensures.came.1 c.read_request-heard.new.self _
    c.read_request-heard.result c.answer_heard-next.result.1 c.in-Some.left c.in-Some.is c.read_request-heard.ensures.came.2 c.answer_heard-next.ensures.becomes)
    read wrote

pub messages-preserved : goal.messages-preserved
messages-preserved g c =
    let few : c.messages.answered < ANSWERS = omega arith in
    let none = none_of c.answer_heard-next.result.1 c.in_default-ended.not-Some in
    record {
      progress = goes_with _ _ _ c.stream_laws.ensures c.call_laws.ensures _ c.messages.wire c.messages.answered c.messages.invariant.progress
          few c.read_request-heard.new.source c.read_request-heard.ensures.came.0 c.read_request-heard.ensures.came.1 c.read_request-heard.new.self _
          c.read_request-heard.result c.answer_heard-next.result.1 none c.read_request-heard.ensures.came.2 c.answer_heard-next.ensures.becomes;
      lock = c.answer_heard-next.ensures.pass.0 ∙ c.messages.invariant.lock;
      id = c.answer_heard-next.ensures.pass.1 ∙ c.messages.invariant.id;
      role = c.answer_heard-next.ensures.pass.2 ∙ c.messages.invariant.role;
      source_faultless = goes_counted _ _ _ _ _ c.read_request-heard.result c.answer_heard-next.result.1 none c.answer_heard-next.ensures.becomes c.read_request-heard.ensures.faults ∙ c.messages.invariant.source_faultless;
      sink_faultless = goes_written c.answer_heard-next.result.1 (g.K.Sink.faults c.messages.sink) (g.K.Sink.faults c.answer_heard-next.new.sink) none c.answer_heard-next.ensures.faults ∙ c.messages.invariant.sink_faultless;
      source_stays = c.read_request-heard.ensures.stays ∙ c.messages.invariant.source_stays;
      sink_stays = c.answer_heard-next.ensures.stays ∙ c.messages.invariant.sink_stays;
    }

pub returns-clause-attended : goal.returns-clause-attended
returns-clause-attended g c =
    let many : c.messages.answered ≡ ANSWERS = omega arith in
    ends_enough _ _ _ c.stream_laws.ensures c.call_laws.ensures _ c.messages.wire c.messages.answered c.messages.invariant.progress many
