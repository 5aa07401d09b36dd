use Rattle.numbering_core.proofs.NumberLemmas.{without_gap, numbers_once, designations_once}
use Rattle.numbering_core.proofs.laws.unbroken_numbers.Goals as goal

pub returns-clause-without_gap : goal.returns-clause-without_gap
returns-clause-without_gap c = without_gap c.orders.ensures

pub returns-clause-numbers_once : goal.returns-clause-numbers_once
returns-clause-numbers_once c = numbers_once c.orders.ensures

pub returns-clause-designations_once : goal.returns-clause-designations_once
returns-clause-designations_once c = designations_once c.orders.ensures
