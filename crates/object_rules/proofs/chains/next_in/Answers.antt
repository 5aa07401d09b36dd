use Rattle.object_rules.proofs.SeenLemmas.{chain_next, own_next}
use Rattle.object_rules.proofs.chains.next_in.Goals as goal

pub returns-clause-chain : goal.returns-clause-chain
returns-clause-chain c = chain_next c.args.file.now.observations c.args.t c.args.k c.next_of.result c.requires.own c.next_of.ensures.next c.next_of.ensures.rest

pub returns-clause-own : goal.returns-clause-own
returns-clause-own c = own_next c.args.file.now.observations c.args.t c.args.k c.next_of.result c.requires.own c.next_of.ensures.own
