use Rattle.act_model.proofs.Fits.{numbers_unbroken}
use Rattle.act_model.proofs.Rows.{unbroken_numbers}
use Rattle.act_model.proofs.laws.unbroken_numbers.Goals as goal

pub returns : goal.returns
returns c =
    let g = c.given_ascend.ensures in
    let n = c.unbroken_numbers.ensures in
    λ history. unbroken_numbers n.without_gap n.numbers_once n.designations_once history (numbers_unbroken g.same g.itself c.begun_rows.ensures.none c.counts_grow.ensures g.ascending c.first_numbers_are_numbers.ensures c.openings_are_in_range.ensures history)
