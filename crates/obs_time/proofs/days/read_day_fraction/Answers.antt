use Rattle.std.proofs.Common.{◌∙◌, sym}
use Rattle.obs_time.proofs.DayLaws.{day_answered, day_answer_only, decimals_read}
use Rattle.obs_time.proofs.days.read_day_fraction.Goals as goal

pub returns-clause-answer : goal.returns-clause-answer
returns-clause-answer c = rw c.answer.ensures (day_answered c.texts.ensures c.args.text.now)

pub returns-clause-decimals : goal.returns-clause-decimals
returns-clause-decimals c = decimals_read c.args.text.now c.answer.result (returns-clause-answer c)

pub returns-clause-only : goal.returns-clause-only
returns-clause-only c = λ other h. day_answer_only c.texts.ensures c.args.text.now other h ∙ sym c.answer.ensures
