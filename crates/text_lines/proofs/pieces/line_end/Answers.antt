use Rattle.std.proofs.Common.{◌∷◌}
use Rattle.std.proofs.Math.Seq.{take-append-add}
use Rattle.text_lines.proofs.LineCuts.{complete_stays, unfinished_stays, unfinished-feed}
use Rattle.text_lines.proofs.pieces.line_end.Goals as goal

pub returns-in-None-clause-no_line : goal.returns-in-None-clause-no_line
returns-in-None-clause-no_line c = λ text.
    complete_stays text c.args.piece.now (rw (rw c.in-None.is at c.cut.ensures.whole) at c.cut.ensures.first)

pub returns-in-None-clause-goes_on : goal.returns-in-None-clause-goes_on
returns-in-None-clause-goes_on c = λ text.
    unfinished_stays text c.args.piece.now (rw (rw c.in-None.is at c.cut.ensures.whole) at c.cut.ensures.first)

pub returns-in-Some-clause-ended : goal.returns-in-Some-clause-ended
returns-in-Some-clause-ended c = λ text.
    let parts = rw c.in-Some.is at c.cut.ensures.parts in
    rw (c.split_at.ensures.front, parts, take-append-add c.cut.result.0.now (10 ∷ c.in-Some.field-0.now) 1) (unfinished-feed text c.cut.result.0.now)
