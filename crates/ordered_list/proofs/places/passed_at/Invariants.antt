use Rattle.std.proofs.Common.{ℕ, ◌+◌, ◌-◌, ◌<◌, ◌≤◌, length, get_or}
use Rattle.ordered_list.specs.Orders.{merged}
use Rattle.ordered_list.specs.Places.{below}
use Rattle.ordered_list.proofs.places.passed_at.Given as goal

-- those before `low` stand before the place, and those from `high` on don't
abbrev pub invariant-loop-low : goal.invariant-loop-low
invariant-loop-low g l = record {
  order : l.low ≤ l.high;
  within : l.high ≤ length l.newest;
  before : (j : ℕ) (d : g.row.T.Denot) → j < l.low → j + below g.T.Ord.cmp (get_or l.newest j d) (merged g.T.Ord.cmp l.settled l.recent) < l.place;
  after : (j : ℕ) (d : g.row.T.Denot) → l.high ≤ j → j < length l.newest → l.place ≤ j + below g.T.Ord.cmp (get_or l.newest j d) (merged g.T.Ord.cmp l.settled l.recent);
}

abbrev pub decreases-loop-low : goal.decreases-loop-low
decreases-loop-low g l = l.high - l.low
