use Rattle.identify_core.proofs.OwnLemmas.{stay_own}
use Rattle.identify_core.proofs.laws.principals_stay_own.Goals as goal

pub returns : goal.returns
returns c = stay_own
