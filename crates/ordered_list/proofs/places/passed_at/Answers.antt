use Rattle.std.proofs.Common.{arith}
use Rattle.ordered_list.specs.Orders.{merged}
use Rattle.ordered_list.proofs.MergedPlaces.{before_middle, after_middle}
use Rattle.ordered_list.proofs.places.passed_at.Goals as goal

pub loop-low-preserved-then-middle-gap_below : goal.loop-low-preserved-then-middle-gap_below
loop-low-preserved-then-middle-gap_below g c = record {
  order = omega arith;
  within = c.loop-low.invariant.within;
  before = before_middle g.met.T.Ord.total (merged g.T.Ord.cmp c.args.settled.now c.args.recent.now) c.args.newest.now c.requires.pair c.args.place _ c.gap_below.result c.index-newest-middle.result
      (omega (arith, c.loop-low.invariant.within, c.loop-low-test.true)) c.index-newest-middle.is c.gap_below.ensures.belongs c.if-middle-gap_below.true;
  after = c.loop-low.invariant.after;
}

pub loop-low-preserved : goal.loop-low-preserved
loop-low-preserved g c = record {
  order = omega arith;
  within = omega (arith, c.loop-low.invariant.within, c.loop-low.invariant.order);
  before = c.loop-low.invariant.before;
  after = after_middle g.met.T.Ord.total (merged g.T.Ord.cmp c.args.settled.now c.args.recent.now) c.args.newest.now c.requires.pair c.args.place _ c.gap_below.result c.index-newest-middle.result
      (omega (arith, c.loop-low.invariant.within, c.loop-low-test.true)) c.index-newest-middle.is c.gap_below.ensures.belongs c.if-middle-gap_below.false;
}
