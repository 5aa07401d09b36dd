use Rattle.std.proofs.Common.{◌≡◌, ◌++◌, take}
use Rattle.ascii_text.proofs.writing.put_decimal.Given as goal

abbrev pub invariant-loop-digit : goal.invariant-loop-digit
invariant-loop-digit g l = l.out.items ≡ l.fn.out.items ++ take l.digit-index l.digit-items
