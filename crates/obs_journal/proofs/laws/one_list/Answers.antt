use Rattle.obs_journal.proofs.Rows.{one_list}
use Rattle.obs_journal.proofs.laws.one_list.Goals as goal

pub returns : goal.returns
returns c = one_list
