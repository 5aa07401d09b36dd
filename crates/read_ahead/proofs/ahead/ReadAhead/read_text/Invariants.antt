use Rattle.std.proofs.Common.{◌≡◌, ◌≤◌}
use Rattle.read_ahead.specs.Reading.{work}
use Rattle.read_ahead.proofs.Texts.{IsTaken}
use Rattle.read_ahead.proofs.ahead.ReadAhead.read_text.Given as goal

abbrev pub invariant-loop-missing : goal.invariant-loop-missing
invariant-loop-missing g l = record {
  taken : IsTaken g.S.Source.left g.S.Source.gives l.fn.source l.source l.fn.self l.self l.fn.size l.missing l.kept;
  faultless : g.S.Source.faults l.source ≡ g.S.Source.faults l.fn.source;
  stays : g.S.Source.is_open l.source ≡ g.S.Source.is_open l.fn.source;
  work : work (g.S.Source.reads l.source) l.self ≤ work (g.S.Source.reads l.fn.source) l.fn.self;
}

abbrev pub decreases-loop-missing : goal.decreases-loop-missing
decreases-loop-missing g l = l.missing
