use Rattle.std.proofs.Common.{take}
use Rattle.std.specs.Prelude.{reverse}
use Rattle.batch_rules.specs.Earlier.{Finds, pointed_sightings}
use Rattle.batch_rules.proofs.earlier.index_of.Given as goal

-- those that were passed are indexed
abbrev pub invariant-loop-s : goal.invariant-loop-s
invariant-loop-s l = Finds l.index (reverse (pointed_sightings (take l.s-index l.s-items)))
