use Rattle.std.proofs.Common.{◌∙◌, sym}
use Rattle.obs_time.proofs.DateLaws.{date_answered, date_answer_only}
use Rattle.obs_time.proofs.dates.read_date.Goals as goal

pub returns-clause-answer : goal.returns-clause-answer
returns-clause-answer c = rw c.answer.ensures.exact (date_answered c.texts.ensures c.args.text.now)

pub returns-clause-only : goal.returns-clause-only
returns-clause-only c = λ other h. date_answer_only c.texts.ensures c.args.text.now other h ∙ sym c.answer.ensures.exact
