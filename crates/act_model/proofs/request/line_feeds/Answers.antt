use Rattle.std.proofs.Common.{ap, arith}
use Rattle.act_model.specs.Requests.{line_feeds}
use Rattle.act_model.proofs.Feeds.{feeds_cut, feeds_within}
use Rattle.act_model.proofs.request.line_feeds.Goals as goal

pub loop-left-preserved : goal.loop-left-preserved
loop-left-preserved c = (
  omega (
    arith,
    c.from-feeds.ensures,
    c.line_feeds_among.ensures,
    ap line_feeds c.split_at.ensures.front,
    ap line_feeds c.split_at.ensures.back,
    feeds_cut 192 c.loop-left.left.now,
    c.loop-left.invariant.0,
  ),
  omega (
    arith,
    c.from-feeds.ensures,
    c.line_feeds_among.ensures,
    feeds_within c.split_at.result.0.now,
    c.split_at.ensures.front_len,
    c.split_at.ensures.back_len,
    c.loop-left-test.true,
    c.loop-left.invariant.1,
  ),
)
