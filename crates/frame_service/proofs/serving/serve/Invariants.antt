use Rattle.std.proofs.Common.{◌≡◌}
use Rattle.read_ahead.specs.Reading.{work}
use Rattle.frame_service.specs.Exchanges.{attending_of}
use Rattle.frame_service.specs.Steps.{Progress}
use Rattle.frame_service.proofs.Served.{FrameLaws}
use Rattle.frame_service.proofs.serving.serve.Given as goal

-- the laws of frames hold, serving has come so far, no fault of the source or the sink was counted, and what was open
-- is open
abbrev pub invariant-frames : goal.invariant-frames
invariant-frames g l = record {
  laws : FrameLaws;
  progress : Progress g.S.Source.left g.S.Source.gives g.A.Attendant.answers
      (record { at = attending_of g.C.Clock.reading g.C.Clock.last l.initial.attendant l.initial.clock; taken = g.K.Sink.taken l.initial.sink; source = l.initial.source; ahead = l.initial.reader })
      (record { at = attending_of g.C.Clock.reading g.C.Clock.last l.attendant l.clock; taken = g.K.Sink.taken l.sink; source = l.source; ahead = l.reader }) l.offset;
  source_faultless : g.S.Source.faults l.source ≡ g.S.Source.faults l.initial.source;
  sink_faultless : g.K.Sink.faults l.sink ≡ g.K.Sink.faults l.initial.sink;
  source_stays : g.S.Source.is_open l.source ≡ g.S.Source.is_open l.initial.source;
  sink_stays : g.K.Sink.is_open l.sink ≡ g.K.Sink.is_open l.initial.sink;
}

abbrev pub decreases-frames : goal.decreases-frames
decreases-frames g l = work (g.S.Source.reads l.source) l.reader
