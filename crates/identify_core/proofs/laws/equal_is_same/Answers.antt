use Rattle.identify_core.proofs.OwnLemmas.{equal_same}
use Rattle.identify_core.proofs.laws.equal_is_same.Goals as goal

pub returns : goal.returns
returns c = equal_same
