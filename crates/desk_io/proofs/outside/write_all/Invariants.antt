use Rattle.std.proofs.Common.{◌≡◌, length}
use Rattle.desk_io.proofs.Written.{IsWritten}
use Rattle.desk_io.proofs.outside.write_all.Given as goal

abbrev pub invariant-loop-rest : goal.invariant-loop-rest
invariant-loop-rest g l = record {
  written : IsWritten (g.K.Sink.taken l.fn.sink) (g.K.Sink.taken l.sink) l.fn.piece l.rest;
  faultless : g.K.Sink.faults l.sink ≡ g.K.Sink.faults l.fn.sink;
  stays : g.K.Sink.is_open l.sink ≡ g.K.Sink.is_open l.fn.sink;
}

abbrev pub decreases-loop-rest : goal.decreases-loop-rest
decreases-loop-rest g l = length l.rest
