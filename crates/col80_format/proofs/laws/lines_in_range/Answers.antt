use Rattle.col80_format.proofs.RangeLaws.{filed, batch_stated}
use Rattle.col80_format.proofs.laws.lines_in_range.Goals as goal

pub returns-clause-line : goal.returns-clause-line
returns-clause-line c = filed c.below.ensures

pub returns-clause-batch : goal.returns-clause-batch
returns-clause-batch c = batch_stated c.below.ensures
