use Rattle.obs_journal.specs.declared.format.Format.TheVariants.{Chained}
use Rattle.obs_journal.proofs.Rows.{one_list_in}
use Rattle.obs_journal.proofs.Chains.{chain_in_force}
use Rattle.obs_journal.proofs.laws.one_chain.Goals as goal

pub returns : goal.returns
returns c = record { one = one_list_in Chained; in_force = chain_in_force }
