use Rattle.std.proofs.Common.{◌≡◌, ◌≤◌, length, take}
use Rattle.read_ahead.specs.Reading.{work}
use Rattle.desk_http.specs.Reading.{IsLooked, IsAwaited}
use Rattle.read_ahead.specs.Growing.{Grows}
use Rattle.desk_http.proofs.wire.read_head.Given as goal

abbrev pub invariant-pieces : goal.invariant-pieces
invariant-pieces g l = record {
  came : Grows g.S.Source.left g.S.Source.gives IsAwaited l.fn.source l.source l.fn.ahead l.ahead;
  looked : (l.looked.seen ≤ length l.ahead) × IsLooked (take l.looked.seen l.ahead) l.looked;
  faultless : g.S.Source.faults l.source ≡ g.S.Source.faults l.fn.source;
  stays : g.S.Source.is_open l.source ≡ g.S.Source.is_open l.fn.source;
  work : work (g.S.Source.reads l.source) l.ahead ≤ work (g.S.Source.reads l.fn.source) l.fn.ahead;
}

abbrev pub decreases-pieces : goal.decreases-pieces
decreases-pieces g l = work (g.S.Source.reads l.source) l.ahead
