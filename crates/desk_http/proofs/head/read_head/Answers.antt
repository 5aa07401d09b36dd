use Rattle.std.proofs.Common.{arith, rules}
use Rattle.desk_http.proofs.Messages.{never_full, never_many}
use Rattle.desk_http.proofs.head.read_head.Goals as goal

pub returns-in-Ok-Partial-2-clause-front : goal.returns-in-Ok-Partial-2-clause-front
returns-in-Ok-Partial-2-clause-front c = never_full c.args.bytes.now (search rules) (omega (arith, c.if-bytes-lt-HEAD_BYTES.false))

pub returns-in-Err-clause-front : goal.returns-in-Err-clause-front
returns-in-Err-clause-front c = never_many c.args.bytes.now (search rules)
