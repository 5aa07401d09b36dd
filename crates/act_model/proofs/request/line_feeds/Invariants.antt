use Rattle.std.proofs.Common.{◌≡◌, ◌+◌, ◌≤◌, length}
use Rattle.act_model.specs.Requests.{line_feeds}
use Rattle.act_model.proofs.request.line_feeds.Given as goal

-- those of the front are counted
abbrev pub invariant-loop-left : goal.invariant-loop-left
invariant-loop-left l = (l.feeds + line_feeds l.left ≡ line_feeds l.bytes) × (l.feeds + length l.left ≤ length l.bytes)

abbrev pub decreases-loop-left : goal.decreases-loop-left
decreases-loop-left l = length l.left
