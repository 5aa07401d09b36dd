use Rattle.act_model.proofs.Fits.{acts_fit}
use Rattle.act_model.proofs.laws.acts_fit.Goals as goal

pub returns : goal.returns
returns c = acts_fit c.given_ascend.ensures.same c.given_ascend.ensures.itself c.begun_rows.ensures.none c.counts_grow.ensures c.given_ascend.ensures.ascending c.first_numbers_are_numbers.ensures c.openings_are_in_range.ensures
