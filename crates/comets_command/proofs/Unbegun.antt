-- The end of a command whose register couldn't be opened.
use Rattle.std.proofs.Common.{◌≡◌, ◌-◌, List, refl}
use Rattle.obs_journal.specs.declared.fault.OpenFault.{OpenFault}
use Rattle.obs_journal.specs.declared.fault.OpenFault.TheVariants as opening
use Rattle.act_bodies.specs.declared.key.Key.{Key}
use Rattle.act_model.specs.declared.deed.Deed.{Deed}
use Rattle.mpc_desk.specs.Desks.{count_of}
use Rattle.command_ends.specs.Disks.{DiskWords}
use Rattle.command_ends.specs.Opening.{status_of}
use Rattle.comet_desk.specs.Opening.{IsUnopened}
use Rattle.comets_command.specs.Opening.{IsNotWritten, EndsUnbegun}
use Rattle.comets_command.proofs.Closings.{rise_of, rise_between}

module _ {D : Type 0} (on : DiskWords D) (founder : Key) (desk : List Deed) (disk now : D) where
  -- unless the disk failed it wasn't written
  not_written : (fault : OpenFault) → (fault ≡ opening.DiskFault → ⊥) → IsUnopened on founder desk disk fault now → IsNotWritten on disk now
  not_written fault never shut = record {
    rise = count_of (on.faults now) - count_of (on.faults disk);
    shut = record { counts = rise_between (on.faults disk) (on.faults now) shut.counts; images = shut.images };
    unwritten = shut.unwritten never;
  }

  pub unbegun : (fault : OpenFault) → IsUnopened on founder desk disk fault now → EndsUnbegun on founder desk disk now (status_of fault)
  unbegun opening.DiskFault shut =
      let (rise, some, rose) = rise_of (on.faults disk) (on.faults now) shut.counts (shut.cause refl) in
      (rise, some, record { counts = rose; images = shut.images })
  unbegun (opening.Damaged file offset) shut =
      let found = shut.damaged file offset refl in
      (found.0, found.1, not_written (opening.Damaged file offset) (λ is. absurd cc) shut)
  unbegun opening.NoMemory shut = not_written opening.NoMemory (λ is. absurd cc) shut
