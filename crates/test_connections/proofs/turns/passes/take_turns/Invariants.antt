use Rattle.std.proofs.Common.{◌≡◌}
use Rattle.test_connections.proofs.turns.passes.take_turns.Given as goal

abbrev pub invariant-loop : goal.invariant-loop
invariant-loop g l = (l.mine.lock ≡ l.fn.pass.lock) × (l.mine.view.role ≡ l.fn.pass.view.role)
