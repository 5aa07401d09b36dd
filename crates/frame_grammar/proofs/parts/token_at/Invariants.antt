use Rattle.std.proofs.Common.{◌≤◌, take}
use Rattle.std.specs.List.{AllByRecursion}
use Rattle.frame_grammar.specs.Reading.{IsOf}
use Rattle.frame_grammar.proofs.parts.token_at.Given as goal

abbrev pub invariant-loop-i : goal.invariant-loop-i
invariant-loop-i l = record {
  few : l.i ≤ l.most;
  each : AllByRecursion (IsOf l.class) (take l.i l.bytes);
}
