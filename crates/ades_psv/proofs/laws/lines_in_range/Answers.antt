use Rattle.ades_psv.proofs.RangeLaws.{line_stated}
use Rattle.ades_psv.proofs.laws.lines_in_range.Goals as goal

pub returns-clause-line : goal.returns-clause-line
returns-clause-line c = line_stated c.below.ensures
