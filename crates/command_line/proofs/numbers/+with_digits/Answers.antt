use Rattle.command_line.proofs.Digits.{stays_too_large}
use Rattle.command_line.proofs.numbers.+with_digits.Goals as goal

pub returns-in-None : goal.returns-in-None
returns-in-None t c = stays_too_large c.args.value c.args.digits.now c.in-len1-up.len_at_least c.in-None.ensures
