use Rattle.mpc_desk.proofs.OneHistory.{one_first, one_second}
use Rattle.mpc_desk.proofs.Pairing.{one_both, decides}
use Rattle.mpc_desk.proofs.laws.one_history.Goals as goal

pub returns-clause-first : goal.returns-clause-first
returns-clause-first c = one_first c.one_list.ensures

pub returns-clause-second : goal.returns-clause-second
returns-clause-second c = one_second c.one_chain.ensures.one

pub returns-clause-both : goal.returns-clause-both
returns-clause-both c = one_both c.one_list.ensures c.one_chain.ensures.one

pub returns-clause-decides : goal.returns-clause-decides
returns-clause-decides c = decides c.one_chain.ensures.in_force
