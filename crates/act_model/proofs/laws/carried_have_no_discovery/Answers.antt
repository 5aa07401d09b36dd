use Rattle.std.proofs.Common.{ℕ, false, Option, ap}
use Rattle.std.specs.Prelude.{◌==◌}
use Rattle.std.specs.Option.{option_map_or}
use Rattle.act_model.proofs.Rows.{carried_undiscovered}
use Rattle.act_model.proofs.laws.carried_have_no_discovery.Goals as goal

pub returns-clause-none : goal.returns-clause-none
returns-clause-none c =
    let g = c.given_ascend.ensures in
    let r = c.unbroken_rows.ensures in
    carried_undiscovered g.same g.itself c.begun_rows.ensures.none c.counts_grow.ensures r.in_order r.within r.once r.above c.first_numbers_are_numbers.ensures c.openings_are_in_range.ensures

pub returns-clause-star : goal.returns-clause-star
returns-clause-star c = λ history p k was. ap (λ (o : Option ℕ). option_map_or (λ discovery. discovery == k) o false) (returns-clause-none c history p was)
