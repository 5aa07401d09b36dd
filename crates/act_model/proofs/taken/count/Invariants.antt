use Rattle.std.proofs.Common.{◌≡◌, ◌+◌, ◌≤◌, drop}
use Rattle.act_model.specs.Taken.{taken_with, accepted_in}
use Rattle.act_model.proofs.taken.count.Given as goal

-- those that are counted and those of what is left are all
abbrev pub invariant-loop-place : goal.invariant-loop-place
invariant-loop-place l =
    (l.accepted + accepted_in (taken_with (drop l.place l.lines) (drop l.place l.found)) ≡ accepted_in (taken_with l.lines l.found))
    × (l.accepted ≤ l.place)
