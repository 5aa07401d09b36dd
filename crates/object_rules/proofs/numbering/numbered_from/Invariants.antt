use Rattle.std.proofs.Common.{◌≡◌, ◌+◌, ◌++◌, drop}
use Rattle.act_model.specs.Numbers.{numbered_from}
use Rattle.object_rules.proofs.numbering.numbered_from.Given as goal

-- the pairs so far, and those of the designations that are left, are all
abbrev pub invariant-loop-d : goal.invariant-loop-d
invariant-loop-d l =
    record {
      next : l.next ≡ l.first + l.d-index;
      pairs : l.pairs ++ numbered_from l.next (drop l.d-index l.designations) ≡ numbered_from l.first l.designations;
    }
