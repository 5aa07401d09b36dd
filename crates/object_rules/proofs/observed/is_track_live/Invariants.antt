use Rattle.std.proofs.Common.{◌≡◌, length, IfSome, Some}
use Rattle.tracklet_file.specs.Observations.{track_of, observations_of}
use Rattle.object_rules.specs.Numbering.{is_any_live}
use Rattle.object_rules.specs.Seeing.{chain_from}
use Rattle.object_rules.proofs.observed.is_track_live.Given as goal

-- none up to the next one is live
abbrev pub invariant-loop-next : goal.invariant-loop-next
invariant-loop-next l =
    record {
      live : is_any_live l.file.observations (chain_from l.file.observations l.t l.next)
          ≡ is_any_live l.file.observations (observations_of l.file.observations l.t);
      own : IfSome l.next (λ k. track_of l.file.observations k ≡ Some l.t);
    }

-- fewer are left
abbrev pub decreases-loop-next : goal.decreases-loop-next
decreases-loop-next l = length (chain_from l.file.observations l.t l.next)
