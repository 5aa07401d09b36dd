use Rattle.comet_model.proofs.Lines.{translation_cut, translation_whole}
use Rattle.comet_model.proofs.translation.next_part.Goals as goal

pub returns-in-None-clause-last : goal.returns-in-None-clause-last
returns-in-None-clause-last c = λ comets. translation_whole comets c.args.text.now (rw (rw c.in-None.is at c.cut.ensures.whole) at c.cut.ensures.first)

pub returns-in-Some-clause-part : goal.returns-in-Some-clause-part
returns-in-Some-clause-part c = λ comets. rw (rw c.in-Some.is at c.cut.ensures.parts) (translation_cut comets c.cut.result.0.now c.in-Some.after.now c.cut.ensures.first)
