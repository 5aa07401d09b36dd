use Rattle.obs_journal.proofs.Rows.{damage_spells_nothing, one_offset}
use Rattle.obs_journal.proofs.laws.damage.Goals as goal

pub returns : goal.returns
returns c = record { no_list = damage_spells_nothing; one_offset = one_offset }
