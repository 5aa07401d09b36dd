use Rattle.std.proofs.Common.{◌≡◌}
use Rattle.look_command.specs.Looks.{object_line}
use Rattle.look_command.proofs.LineLemmas.{IsSent}
use Rattle.look_command.proofs.looking.write_objects.Given as goal

-- the sink took the lines so far, and never failed
abbrev pub invariant-rows : goal.invariant-rows
invariant-rows g l = record {
  written : IsSent object_line (g.K.Sink.taken l.fn.sink) (g.K.Sink.taken l.sink) l.rows l.row-index;
  faultless : g.K.Sink.faults l.sink ≡ g.K.Sink.faults l.fn.sink;
  stays : g.K.Sink.is_open l.sink ≡ g.K.Sink.is_open l.fn.sink;
}
