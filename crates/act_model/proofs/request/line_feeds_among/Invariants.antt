use Rattle.std.proofs.Common.{◌≡◌, ◌≤◌, take}
use Rattle.act_model.specs.Requests.{line_feeds}
use Rattle.act_model.proofs.request.line_feeds_among.Given as goal

-- the line feeds so far are counted
abbrev pub invariant-loop-byte : goal.invariant-loop-byte
invariant-loop-byte l = (l.feeds ≡ line_feeds (take l.byte-index l.bytes)) × (l.feeds ≤ l.byte-index)
