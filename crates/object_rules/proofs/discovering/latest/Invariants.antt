use Rattle.std.proofs.Common.{◌≡◌, ◌≤ℤ◌, drop}
use Rattle.act_model.specs.Discoveries.{latest}
use Rattle.object_rules.proofs.discovering.latest.Given as goal

-- the latest so far and of what is left is that of all
abbrev pub invariant-loop-next : goal.invariant-loop-next
invariant-loop-next l =
    record {
      latest_is : latest l.found (drop l.next-index l.more) ≡ latest l.first l.more;
      after : l.first.time ≤ℤ l.found.time;
    }
