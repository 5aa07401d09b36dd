use Rattle.text_lines.proofs.LineCuts.{complete_cut, complete_none, unfinished_cut, unfinished_whole}
use Rattle.text_lines.proofs.lines.next_complete.Goals as goal

pub returns-in-None-clause-no_line : goal.returns-in-None-clause-no_line
returns-in-None-clause-no_line c =
    complete_none c.args.text.now (rw (rw c.in-None.is at c.cut.ensures.whole) at c.cut.ensures.first)

pub returns-in-None-clause-all_left : goal.returns-in-None-clause-all_left
returns-in-None-clause-all_left c =
    unfinished_whole c.args.text.now (rw (rw c.in-None.is at c.cut.ensures.whole) at c.cut.ensures.first)

pub returns-in-Some-clause-line : goal.returns-in-Some-clause-line
returns-in-Some-clause-line c =
    rw (rw c.in-Some.is at c.cut.ensures.parts, c.without_return.ensures) (complete_cut c.cut.result.0.now c.in-Some.after.now c.cut.ensures.first)

pub returns-in-Some-clause-rest : goal.returns-in-Some-clause-rest
returns-in-Some-clause-rest c =
    rw (rw c.in-Some.is at c.cut.ensures.parts) (unfinished_cut c.cut.result.0.now c.in-Some.after.now c.cut.ensures.first)
