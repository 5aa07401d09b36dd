use Rattle.identify_core.proofs.OrderedLemmas.{ascending_given, given_iff}
use Rattle.identify_core.proofs.laws.given_in_order.Goals as goal

pub returns-clause-order : goal.returns-clause-order
returns-clause-order c = ascending_given

pub returns-clause-given : goal.returns-clause-given
returns-clause-given c = given_iff
