use Rattle.identify_core.proofs.OwnLemmas.{principal_once}
use Rattle.identify_core.proofs.laws.each_principal_once.Goals as goal

pub returns : goal.returns
returns c = principal_once
