use Rattle.act_model.proofs.Rows.{unbroken_rows}
use Rattle.act_model.proofs.laws.unbroken_rows.Goals as goal

pub returns : goal.returns
returns c =
    let g = c.given_ascend.ensures in
    let r = c.unbroken_rows.ensures in
    unbroken_rows g.same g.itself c.begun_rows.ensures.none c.counts_grow.ensures r.in_order r.within r.once r.above c.first_numbers_are_numbers.ensures c.openings_are_in_range.ensures
