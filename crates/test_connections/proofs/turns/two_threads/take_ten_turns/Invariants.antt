use Rattle.std.proofs.Common.{◌≡◌}
use Rattle.test_connections.proofs.turns.two_threads.take_ten_turns.Given as goal

abbrev pub invariant-turns : goal.invariant-turns
invariant-turns g l = (l.mine.lock ≡ l.fn.pass.lock) × (l.mine.view.role ≡ l.fn.pass.view.role)
