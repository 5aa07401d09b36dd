use Rattle.designate_core.proofs.RowLemmas.{unbroken, within, different, above}
use Rattle.designate_core.proofs.laws.unbroken_rows.Goals as goal

pub returns-clause-in_order : goal.returns-clause-in_order
returns-clause-in_order c = unbroken c.orders.ensures

pub returns-clause-within : goal.returns-clause-within
returns-clause-within c = within c.orders.ensures

pub returns-clause-once : goal.returns-clause-once
returns-clause-once c = different c.orders.ensures

pub returns-clause-above : goal.returns-clause-above
returns-clause-above c = above c.orders.ensures
