-- What the file of a register stands for.
use Rattle.std.specs.Prelude.{◌≡◌, ℕ, List, []}
use Rattle.obs_journal.specs.Chains.{IsInForce}
use Rattle.obs_journal.specs.Moves.{IsIdle}
use Rattle.act_model.specs.declared.entry.Entry.{Entry}
use Rattle.mpc_desk.specs.Files.{Stands}

-- the file holds these entries: where it is in force it is the chain of their parcels, and else there are none
pub record HoldsEntries (file : List ℕ) (entries : List Entry) : Type 0 where
  pub in_force : IsInForce file → Stands file entries
  pub idle : IsIdle file → entries ≡ []
