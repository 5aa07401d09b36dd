use Rattle.std.proofs.Common.{◌≡◌, ◌≤ℤ◌, IsTrue, drop}
use Rattle.act_model.specs.Discoveries.{earliest}
use Rattle.object_rules.specs.Seeing.{is_of_years, AreOfYears}
use Rattle.object_rules.proofs.discovering.earliest.Given as goal

-- the earliest so far and of what is left is that of all; it is of the years, and so is what is left
abbrev pub invariant-loop-next : goal.invariant-loop-next
invariant-loop-next l =
    record {
      earliest_is : earliest l.found (drop l.next-index l.more) ≡ earliest l.first l.more;
      before : l.found.time ≤ℤ l.first.time;
      found_years : IsTrue (is_of_years l.found.time);
      left_years : AreOfYears (drop l.next-index l.more);
    }
