use Rattle.std.proofs.Common.{◌≡◌, ◌++◌, drop}
use Rattle.act_model.specs.Taken.{faults_in}
use Rattle.act_model.proofs.taken.faults_in.Given as goal

-- the faults so far and those of what is left are those of all
abbrev pub invariant-loop-place : goal.invariant-loop-place
invariant-loop-place l = l.faults ++ faults_in (drop l.place l.lines) ≡ faults_in l.lines
