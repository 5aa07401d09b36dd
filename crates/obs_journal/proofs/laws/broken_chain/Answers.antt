use Rattle.obs_journal.proofs.Chains.{broken_spells_nothing, one_break, broken_in_force}
use Rattle.obs_journal.proofs.laws.broken_chain.Goals as goal

pub returns : goal.returns
returns c = record { no_list = broken_spells_nothing; one_offset = one_break; in_force = broken_in_force }
