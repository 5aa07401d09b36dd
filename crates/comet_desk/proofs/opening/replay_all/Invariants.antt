use Rattle.std.proofs.Common.{◌≡◌, take}
use Rattle.obs_journal.specs.Opening.{parcels_of}
use Rattle.act_model.specs.Deeds.{deeds}
use Rattle.mpc_desk.specs.Files.{parcels_in}
use Rattle.comet_core.specs.Register.{IsOver}
use Rattle.comet_desk.proofs.opening.replay_all.Given as goal

-- the entries so far are those of the parcels so far, and the register is one of the office
abbrev pub invariant-loop-placed : goal.invariant-loop-placed
invariant-loop-placed g l = record {
  taken : parcels_in l.register.entries ≡ parcels_of (take l.placed-index l.parcels);
  over : IsOver (deeds (g.V.Shelf.history l.shelf)) l.register;
  founder : l.register.founder ≡ l.fn.register.founder;
}
