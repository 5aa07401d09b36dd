use Rattle.std.proofs.Common.{◌≡◌, ◌≤◌}
use Rattle.read_ahead.specs.Growing.{Grows}
use Rattle.read_ahead.specs.Reading.{work}
use Rattle.frame_reader.specs.Reading.{IsAwaited}
use Rattle.frame_reader.proofs.reader.read_head.Given as goal

abbrev pub invariant-loop-head : goal.invariant-loop-head
invariant-loop-head g l = record {
  came : Grows g.S.Source.left g.S.Source.gives IsAwaited l.fn.source l.source l.fn.ahead l.ahead;
  faultless : g.S.Source.faults l.source ≡ g.S.Source.faults l.fn.source;
  stays : g.S.Source.is_open l.source ≡ g.S.Source.is_open l.fn.source;
  work : work (g.S.Source.reads l.source) l.ahead ≤ work (g.S.Source.reads l.fn.source) l.fn.ahead;
}

abbrev pub decreases-loop-head : goal.decreases-loop-head
decreases-loop-head g l = work (g.S.Source.reads l.source) l.ahead
