use Rattle.std.proofs.Common.{◌≡◌, ◌++◌, drop}
use Rattle.act_model.specs.Replies.{fault_lines}
use Rattle.act_model.proofs.texts.push_fault_lines.Given as goal

-- the lines so far and those of what is left are those of all
abbrev pub invariant-loop-fault : goal.invariant-loop-fault
invariant-loop-fault l = l.out ++ fault_lines (drop l.fault-index l.faults) ≡ l.fn.out ++ fault_lines l.faults
