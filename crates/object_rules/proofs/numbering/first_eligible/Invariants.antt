use Rattle.std.proofs.Common.{◌≡◌, ◌≤◌, ◌++◌, length, drop}
use Rattle.object_rules.specs.Numbering.{eligible_among}
use Rattle.object_rules.proofs.numbering.first_eligible.Given as goal

-- those that were found, which are at most this many, and those among the designations that are left are all
abbrev pub invariant-loop-place : goal.invariant-loop-place
invariant-loop-place g l =
    record {
      within : length l.found ≤ l.most;
      all : l.found ++ eligible_among (g.L.Ledger.deeds l.office) (drop l.place l.open.items)
          ≡ eligible_among (g.L.Ledger.deeds l.office) l.open.items;
    }
