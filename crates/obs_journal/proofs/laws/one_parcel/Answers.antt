use Rattle.obs_journal.proofs.Bytes.{one_parcel}
use Rattle.obs_journal.proofs.laws.one_parcel.Goals as goal

pub returns : goal.returns
returns c = one_parcel
