use Rattle.std.proofs.Common.{sym, ◌∙◌}
use Rattle.col80_format.specs.Reading.{reading_of}
use Rattle.col80_format.proofs.LineLaws.{reading_is, reading_only}
use Rattle.col80_format.proofs.laws.one_reading.Goals as goal

pub returns-clause-some : goal.returns-clause-some
returns-clause-some c = λ line. (reading_of line, reading_is c.below.ensures line)

pub returns-clause-only : goal.returns-clause-only
returns-clause-only c = λ line one other is_one is_other. reading_only c.below.ensures line one is_one ∙ sym (reading_only c.below.ensures line other is_other)
