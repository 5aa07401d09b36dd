use Rattle.std.proofs.Common.{◌-◌, arith}
use Rattle.ordered_list.specs.Orders.{merged}
use Rattle.ordered_list.proofs.MergedPlaces.{passed_low, belongs_below, item_of_newest, item_of_settled, other_item}
use Rattle.ordered_list.proofs.places.newest_at.Goals as goal

pub overflow_sub-result : goal.overflow_sub-result
overflow_sub-result g c =
    passed_low g.met.T.Ord.total (merged g.T.Ord.cmp c.args.settled.now c.args.recent.now) c.args.newest.now c.requires.pair c.args.place c.passed_at-passed.result c.passed_at-passed.ensures

pub returns-then-passed-newest-clause-older : goal.returns-then-passed-newest-clause-older
returns-then-passed-newest-clause-older g c =
    let low = passed_low g.met.T.Ord.total (merged g.T.Ord.cmp c.args.settled.now c.args.recent.now) c.args.newest.now c.requires.pair c.args.place c.passed_at-passed.result c.passed_at-passed.ensures in
    item_of_settled g.met.T.Ord.total (merged g.T.Ord.cmp c.args.settled.now c.args.recent.now) c.args.newest.now c.requires.pair c.args.place c.passed_at-passed.result c.passed_at-passed.ensures
    (c.args.place - c.passed_at-passed.result) (omega (arith, low)) (λ d more. absurd (omega (arith, more, c.if-passed-newest.true)))

pub returns-then-passed-gap_below-clause-newest : goal.returns-then-passed-gap_below-clause-newest
returns-then-passed-gap_below-clause-newest g c =
    let older = merged g.T.Ord.cmp c.args.settled.now c.args.recent.now in
    let stands = belongs_below g.T.Ord.cmp c.index-newest-passed.result older c.gap_below.result c.gap_below.ensures.belongs in
    item_of_newest g.met.T.Ord.total older c.args.newest.now c.requires.pair c.args.place c.passed_at-passed.result c.passed_at-passed.ensures
    c.index-newest-passed.result c.if-passed-newest.false c.index-newest-passed.is (omega (arith, stands, c.if-passed-gap_below.true))

pub overflow_sub-result-2 : goal.overflow_sub-result-2
overflow_sub-result-2 g c =
    passed_low g.met.T.Ord.total (merged g.T.Ord.cmp c.args.settled.now c.args.recent.now) c.args.newest.now c.requires.pair c.args.place c.passed_at-passed.result c.passed_at-passed.ensures

pub returns-clause-older : goal.returns-clause-older
returns-clause-older g c =
    let older = merged g.T.Ord.cmp c.args.settled.now c.args.recent.now in
    let low = passed_low g.met.T.Ord.total older c.args.newest.now c.requires.pair c.args.place c.passed_at-passed.result c.passed_at-passed.ensures in
    let stands = belongs_below g.T.Ord.cmp c.index-newest-passed.result older c.gap_below.result c.gap_below.ensures.belongs in
    item_of_settled g.met.T.Ord.total older c.args.newest.now c.requires.pair c.args.place c.passed_at-passed.result c.passed_at-passed.ensures
    (c.args.place - c.passed_at-passed.result) (omega (arith, low))
    (other_item g.met.T.Ord.total older c.args.newest.now c.requires.pair c.args.place c.passed_at-passed.result c.passed_at-passed.ensures
    c.index-newest-passed.result c.gap_below.result c.index-newest-passed.is stands c.if-passed-gap_below.false)
