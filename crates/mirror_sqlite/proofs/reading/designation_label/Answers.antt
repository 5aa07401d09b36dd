use Rattle.mirror_sqlite.proofs.Showing.{not_printed}
use Rattle.mirror_sqlite.proofs.reading.designation_label.Goals as goal

pub returns-in-Ok-Number-clause-none : goal.returns-in-Ok-Number-clause-none
returns-in-Ok-Number-clause-none c = λ _. not_printed _ c.args.text.now c.in-Ok-Number.ensures.name (λ d is. cc)

pub returns-in-Err-clause-none : goal.returns-in-Err-clause-none
returns-in-Err-clause-none c = λ _. not_printed _ c.args.text.now c.in-Err.ensures.name (λ d is. cc)
