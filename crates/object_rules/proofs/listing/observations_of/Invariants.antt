use Rattle.std.proofs.Common.{◌≡◌, ◌++◌, length, IfSome, Some}
use Rattle.tracklet_file.specs.Observations.{track_of, observations_of}
use Rattle.object_rules.specs.Seeing.{chain_from}
use Rattle.object_rules.proofs.listing.observations_of.Given as goal

-- the numbers so far, and those from the next one on, are those of the tracklet
abbrev pub invariant-loop-next : goal.invariant-loop-next
invariant-loop-next l =
    record {
      numbers : l.ids ++ chain_from l.file.observations l.t l.next ≡ observations_of l.file.observations l.t;
      own : IfSome l.next (λ k. track_of l.file.observations k ≡ Some l.t);
    }

-- fewer are left
abbrev pub decreases-loop-next : goal.decreases-loop-next
decreases-loop-next l = length (chain_from l.file.observations l.t l.next)
