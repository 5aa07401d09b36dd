use Rattle.std.proofs.Common.{◌∙◌, sym}
use Rattle.obs_time.proofs.IsoLaws.{iso_answered, iso_answer_only}
use Rattle.obs_time.proofs.iso.read_iso.Goals as goal

pub returns-clause-answer : goal.returns-clause-answer
returns-clause-answer c = rw c.answer.ensures (iso_answered c.texts.ensures c.args.text.now)

pub returns-clause-only : goal.returns-clause-only
returns-clause-only c = λ other h. iso_answer_only c.texts.ensures c.args.text.now other h ∙ sym c.answer.ensures
