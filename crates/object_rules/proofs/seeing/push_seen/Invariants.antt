use Rattle.std.proofs.Common.{◌≡◌, ◌++◌, length, IfSome, Some}
use Rattle.std.specs.Prelude.{filter_map}
use Rattle.tracklet_file.specs.Observations.{track_of}
use Rattle.act_model.specs.Discoveries.{seen_at, seen_of}
use Rattle.object_rules.specs.Seeing.{AreOfYears, chain_from}
use Rattle.object_rules.proofs.seeing.push_seen.Given as goal

-- the observations so far, and those from the next one on, are those of the tracklet
abbrev pub invariant-loop-next : goal.invariant-loop-next
invariant-loop-next l =
    record {
      seen : l.seen ++ filter_map (seen_at l.file.observations) (chain_from l.file.observations l.t l.next)
          ≡ l.fn.seen ++ seen_of l.file.observations l.t;
      own : IfSome l.next (λ k. track_of l.file.observations k ≡ Some l.t);
      years : AreOfYears l.seen;
    }

-- fewer are left
abbrev pub decreases-loop-next : goal.decreases-loop-next
decreases-loop-next l = length (chain_from l.file.observations l.t l.next)
