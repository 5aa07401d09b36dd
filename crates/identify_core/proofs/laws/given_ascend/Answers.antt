use Rattle.identify_core.proofs.OrderLemmas.{designation_same, designation_itself}
use Rattle.identify_core.proofs.OrderedLemmas.{ascending_given}
use Rattle.identify_core.proofs.laws.given_ascend.Goals as goal

pub returns-clause-ascending : goal.returns-clause-ascending
returns-clause-ascending c = ascending_given

pub returns-clause-same : goal.returns-clause-same
returns-clause-same c = designation_same

pub returns-clause-itself : goal.returns-clause-itself
returns-clause-itself c = designation_itself
