use Rattle.std.proofs.Common.{◌≡◌, length, flat_map}
use Rattle.tracklet_file.specs.Observations.{observations_of}
use Rattle.object_rules.specs.Numbering.{is_any_live}
use Rattle.object_rules.specs.Timing.{numbers_at, chain_at}
use Rattle.object_rules.proofs.observed.is_home_live.Given as goal

-- no observation of the tracklets up to the next one is live
abbrev pub invariant-loop-next : goal.invariant-loop-next
invariant-loop-next l =
    is_any_live l.file.observations (flat_map (observations_of l.file.observations) (chain_at l.file.tracklets l.d l.next))
    ≡ is_any_live l.file.observations (numbers_at l.file.observations l.file.tracklets l.d)

-- fewer are left
abbrev pub decreases-loop-next : goal.decreases-loop-next
decreases-loop-next l = length (chain_at l.file.tracklets l.d l.next)
