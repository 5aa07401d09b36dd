use Rattle.std.proofs.Common.{◌≡◌, ◌++◌, drop, flat_map}
use Rattle.act_model.specs.Rows.{first_row}
use Rattle.act_model.specs.Holdings.{holdings}
use Rattle.act_model.specs.Discoveries.{seen_in}
use Rattle.act_model.specs.Doing.{free_rows}
use Rattle.object_rules.specs.Seeing.{AreOfYears}
use Rattle.object_rules.proofs.seeing.free_seen.Given as goal

-- the first refusal among what is left is that of all, and so it is with the observations
abbrev pub invariant-loop-t : goal.invariant-loop-t
invariant-loop-t g l =
    record {
      refusal : first_row (flat_map (free_rows (holdings (g.L.Ledger.deeds l.office))) (drop l.t-index l.tracklets))
          ≡ first_row (flat_map (free_rows (holdings (g.L.Ledger.deeds l.office))) l.tracklets);
      seen : l.seen ++ seen_in (holdings (g.L.Ledger.deeds l.office)).observations (drop l.t-index l.tracklets)
          ≡ seen_in (holdings (g.L.Ledger.deeds l.office)).observations l.tracklets;
      years : AreOfYears l.seen;
    }
