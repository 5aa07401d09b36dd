use Rattle.object_rules.proofs.SeenLemmas.{chain_first}
use Rattle.object_rules.proofs.chains.first_in.Goals as goal

pub returns-clause-chain : goal.returns-clause-chain
returns-clause-chain c = chain_first c.args.file.now.observations c.args.t c.first_of.result c.first_of.ensures.first c.first_of.ensures.rest
