use Rattle.obs_journal.specs.declared.format.Format.TheVariants.{Chained}
use Rattle.obs_journal.proofs.Appends.{either_row}
use Rattle.obs_journal.proofs.laws.doubtful_chain.Goals as goal

pub returns : goal.returns
returns c = λ file parcels doubt doubtful. either_row Chained parcels doubt file doubtful
