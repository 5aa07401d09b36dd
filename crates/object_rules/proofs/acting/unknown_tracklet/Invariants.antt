use Rattle.std.proofs.Common.{◌≡◌, map, drop}
use Rattle.act_model.specs.Rows.{first_row}
use Rattle.act_model.specs.Holdings.{holdings}
use Rattle.act_model.specs.Doing.{tracklet_row}
use Rattle.object_rules.proofs.acting.unknown_tracklet.Given as goal

-- the first refusal among what is left is that of all
abbrev pub invariant-loop-t : goal.invariant-loop-t
invariant-loop-t g l =
    first_row (map (tracklet_row (holdings (g.L.Ledger.deeds l.office)).tracklets) (drop l.t-index l.tracklets))
    ≡ first_row (map (tracklet_row (holdings (g.L.Ledger.deeds l.office)).tracklets) l.tracklets)
