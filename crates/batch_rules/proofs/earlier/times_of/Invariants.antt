use Rattle.std.proofs.Common.{take}
use Rattle.std.specs.Prelude.{reverse}
use Rattle.batch_rules.specs.Earlier.{HasTimes, pointed_sightings}
use Rattle.batch_rules.proofs.earlier.times_of.Given as goal

-- those that were passed are among the times
abbrev pub invariant-loop-s : goal.invariant-loop-s
invariant-loop-s l = HasTimes l.times (reverse (pointed_sightings (take l.s-index l.s-items)))
