use Rattle.std.proofs.Common.{◌≡◌, take}
use Rattle.obs_journal.specs.Opening.{parcels_of}
use Rattle.act_model.specs.Legal.{IsLegal}
use Rattle.mpc_desk.specs.Files.{parcels_in, AreActs}
use Rattle.mpc_desk.proofs.opening.replay_all.Given as goal

abbrev pub invariant-loop-placed : goal.invariant-loop-placed
invariant-loop-placed l = record {
  taken : parcels_in l.core.history ≡ parcels_of (take l.placed-index l.parcels);
  legal : IsLegal l.core.founder l.core.history;
  acts : AreActs l.core.history;
  founder : l.core.founder ≡ l.fn.core.founder;
}
