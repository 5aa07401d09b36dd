use Rattle.std.proofs.Common.{◌≡◌, ◌++◌}
use Rattle.ascii_text.specs.Blanks.{blanks}
use Rattle.ascii_text.proofs.writing.put_blanks.Given as goal

abbrev pub invariant-loop : goal.invariant-loop
invariant-loop g l = l.out.items ≡ l.fn.out.items ++ blanks l.counter
