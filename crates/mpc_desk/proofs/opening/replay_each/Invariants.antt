use Rattle.std.proofs.Common.{◌≡◌}
use Rattle.obs_journal.specs.Opening.{parcels_of}
use Rattle.act_model.specs.Legal.{IsLegal}
use Rattle.mpc_desk.specs.Files.{parcels_in, AreActs}
use Rattle.mpc_desk.proofs.opening.replay_each.Given as goal

abbrev pub invariant-loop-placed : goal.invariant-loop-placed
invariant-loop-placed l =
    (goal.iterator-loop-placed).can_next l.placed-iterator ×
    (goal.iterator-loop-placed).is_finite l.placed-iterator ×
    (record {
      taken : parcels_in l.core.history ≡ parcels_of l.yielded;
      legal : IsLegal l.core.founder l.core.history;
      acts : AreActs l.core.history;
      founder : l.core.founder ≡ l.fn.core.founder;
    })
