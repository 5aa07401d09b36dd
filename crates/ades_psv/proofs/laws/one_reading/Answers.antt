use Rattle.ades_psv.specs.Reading.{reading_of}
use Rattle.ades_psv.proofs.LineLaws.{reading_is, one_reading}
use Rattle.ades_psv.proofs.laws.one_reading.Goals as goal

pub returns-clause-some : goal.returns-clause-some
returns-clause-some c = λ fields. (reading_of fields, reading_is c.below.ensures fields)

pub returns-clause-only : goal.returns-clause-only
returns-clause-only c = one_reading c.below.ensures
