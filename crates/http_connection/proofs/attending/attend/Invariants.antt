use Rattle.std.proofs.Common.{◌≡◌}
use Rattle.act_model.specs.Clocks.{clock_of}
use Rattle.http_connection.proofs.Progress.{Progress}
use Rattle.http_connection.proofs.attending.attend.Given as goal

-- the connection has come so far, the pass is the same, no fault was counted, and what was open is open
abbrev pub invariant-messages : goal.invariant-messages
invariant-messages g l = record {
  progress : Progress g.S.Source.left g.S.Source.gives
      (record { view = l.fn.pass.view; clock = clock_of g.C.Clock.reading g.C.Clock.last l.initial.clock; taken = g.K.Sink.taken l.initial.sink; source = l.initial.source })
      (record { view = l.mine.view; clock = clock_of g.C.Clock.reading g.C.Clock.last l.clock; taken = g.K.Sink.taken l.sink; source = l.source }) l.wire l.answered;
  lock : l.mine.lock ≡ l.fn.pass.lock;
  id : l.mine.id ≡ l.fn.pass.id;
  role : l.mine.view.role ≡ l.fn.pass.view.role;
  source_faultless : g.S.Source.faults l.source ≡ g.S.Source.faults l.initial.source;
  sink_faultless : g.K.Sink.faults l.sink ≡ g.K.Sink.faults l.initial.sink;
  source_stays : g.S.Source.is_open l.source ≡ g.S.Source.is_open l.initial.source;
  sink_stays : g.K.Sink.is_open l.sink ≡ g.K.Sink.is_open l.initial.sink;
}
