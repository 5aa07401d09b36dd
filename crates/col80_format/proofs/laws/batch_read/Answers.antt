use Rattle.col80_format.proofs.Batches.{batch_read}
use Rattle.col80_format.proofs.laws.batch_read.Goals as goal

pub returns : goal.returns
returns c = batch_read
