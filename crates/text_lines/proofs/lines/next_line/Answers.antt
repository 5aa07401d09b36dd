use Rattle.text_lines.proofs.LineCuts.{lines_cut, lines_whole}
use Rattle.text_lines.proofs.lines.next_line.Goals as goal

pub returns-in-None-clause-first : goal.returns-in-None-clause-first
returns-in-None-clause-first c =
    let whole = rw c.in-None.is at c.cut.ensures.whole in
    rw whole (lines_whole c.args.text.now c.requires (rw whole at c.cut.ensures.first))

pub returns-in-Some-clause-first : goal.returns-in-Some-clause-first
returns-in-Some-clause-first c =
    rw (rw c.in-Some.is at c.cut.ensures.parts, c.without_return.ensures) (lines_cut c.cut.result.0.now c.in-Some.after.now c.cut.ensures.first)
