use Rattle.std.proofs.Common.{eqb, arith}
use Rattle.std.proofs.lemmas.Grind.{common_steps}
use Rattle.std.proofs.lemmas.Simd.{run_in_chunk_fails, run_in_chunk_stops}
use Rattle.ades_psv.proofs.cells.clear_front.Goals as goal

pub returns-clause-clear : goal.returns-clause-clear
returns-clause-clear c = λ k below.
    run_in_chunk_fails (λ b. eqb b 124) c.args.text.now 0 16 c.before_bar.result 0 c.requires c.before_bar.ensures k (omega arith) (omega (arith, below))

pub returns-clause-bar : goal.returns-clause-bar
returns-clause-bar c = λ within.
    grind (arith, common_steps, run_in_chunk_stops (λ b. eqb b 124) c.args.text.now 0 16 c.before_bar.result 0 c.requires c.before_bar.ensures within)
