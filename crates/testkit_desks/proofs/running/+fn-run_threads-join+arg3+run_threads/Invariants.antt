use Rattle.std.proofs.Common.{◌-◌, ◌*◌}
use Rattle.testkit_desks.proofs.running.+fn-run_threads-join+arg3+run_threads.Given as goal

-- twice the threads that are still to be run; between two calls stands one of the closure
abbrev pub decreases-run_threads : goal.decreases-run_threads
decreases-run_threads g l = l.left * 2

abbrev pub decreases-join+arg3 : goal.decreases-join+arg3
decreases-join+arg3 g l = l.left * 2 - 1
