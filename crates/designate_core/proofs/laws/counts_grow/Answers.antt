use Rattle.designate_core.proofs.RowLemmas.{counts_grow}
use Rattle.designate_core.proofs.laws.counts_grow.Goals as goal

pub returns : goal.returns
returns c = counts_grow c.orders.ensures
