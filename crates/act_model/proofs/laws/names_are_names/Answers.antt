use Rattle.act_model.proofs.Filed.{tracklets_named}
use Rattle.act_model.proofs.Names.{given_named, principal_named, number_is, numbered_is}
use Rattle.act_model.proofs.laws.names_are_names.Goals as goal

pub returns-clause-given : goal.returns-clause-given
returns-clause-given c = (let g = c.given_ascend.ensures in given_named g.same g.itself c.begun_rows.ensures.none c.counts_grow.ensures g.ascending c.first_numbers_are_numbers.ensures c.openings_are_in_range.ensures)

pub returns-clause-principal : goal.returns-clause-principal
returns-clause-principal c = (let g = c.given_ascend.ensures in principal_named g.same g.itself c.begun_rows.ensures.none c.counts_grow.ensures g.ascending c.first_numbers_are_numbers.ensures c.openings_are_in_range.ensures)

pub returns-clause-number : goal.returns-clause-number
returns-clause-number c = (let g = c.given_ascend.ensures in number_is g.same g.itself c.begun_rows.ensures.none c.counts_grow.ensures g.ascending c.first_numbers_are_numbers.ensures c.openings_are_in_range.ensures)

pub returns-clause-numbered : goal.returns-clause-numbered
returns-clause-numbered c =
    let g = c.given_ascend.ensures in
    numbered_is g.same g.itself c.begun_rows.ensures.none c.counts_grow.ensures g.ascending c.first_numbers_are_numbers.ensures c.openings_are_in_range.ensures c.equal_is_same.ensures c.principals_stay_own.ensures

pub returns-clause-track : goal.returns-clause-track
returns-clause-track c = tracklets_named c.lines_in_range-2.ensures.batch c.lines_in_range.ensures.batch c.letters_are_printed.ensures c.stations_are_codes.ensures
