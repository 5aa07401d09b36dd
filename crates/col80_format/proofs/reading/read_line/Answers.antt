use Rattle.std.proofs.Common.{sym, subst, ◌∙◌}
use Rattle.col80_format.specs.Rules.{IsReading}
use Rattle.col80_format.proofs.LineLaws.{reading_is, reading_only}
use Rattle.col80_format.proofs.RangeLaws.{in_range}
use Rattle.col80_format.proofs.reading.read_line.Goals as goal

pub returns-clause-answer : goal.returns-clause-answer
returns-clause-answer c = subst (IsReading c.args.line.now) (sym c.reading.ensures) (reading_is c.below.ensures c.args.line.now)

pub returns-clause-only : goal.returns-clause-only
returns-clause-only c = λ other is. reading_only c.below.ensures c.args.line.now other is ∙ sym c.reading.ensures

pub returns-clause-range : goal.returns-clause-range
returns-clause-range c = in_range c.below.ensures c.args.line.now c.reading.result (returns-clause-answer c)
