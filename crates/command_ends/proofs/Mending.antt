-- The last mending, and what it does to a desk.
use Rattle.std.proofs.Common.{◌≡◌, ◌-◌, ◌≤◌, Option, Some, None, refl, sym, subst}
use Rattle.std.specs.Prelude.{IsSome}
use Rattle.call_log.specs.Counts.{Rises}
use Rattle.disk_model.specs.Crashes.{During}
use Rattle.act_model.specs.declared.entry.Entry.{Entry}
use Rattle.act_model.specs.Turns.{Mends}
use Rattle.mpc_desk.specs.Desks.{DeskState, IsAtRest, count_of}
use Rattle.command_ends.specs.declared.status.Status.TheVariants.{Done, DiskFault}
use Rattle.command_ends.specs.Disks.{DiskWords, DiskRose}
use Rattle.command_ends.specs.Closing.{MendsLast}
use Rattle.command_ends.proofs.Counts.{rose_any, rose_fault, rose_none}

some_is : (o : Option Entry) → (o ≡ None → ⊥) → IsSome o
some_is None never = absurd (never refl)
some_is (Some entry) never = refl

module _ {D : Type 0} (on : DiskWords D) (old new : DeskState D) where
  pub mends_done : Mends old.state.settled old.state.doubt new.state.settled → new.state.doubt ≡ None → (old.state.doubt ≡ None → new ≡ old)
      → During on.moment on.since old.disk new.disk (λ _. ⊥) → IsAtRest on.leaves new → on.faults old.disk ≤ on.faults new.disk → MendsLast on old Done new
  mends_done mends settled no_call none rests later = by old.state.doubt refl
    where
      by : (doubt : Option Entry) → old.state.doubt ≡ doubt → MendsLast on old Done new
      by None is = (
        0,
        record { mends = mends; settled = settled; nothing = λ _. refl },
        record {
          counts = subst (λ (d : DeskState D). DiskRose on 0 old.disk d.disk) (sym (no_call is)) (rose_none (on.faults old.disk));
          no_image = none;
          at_rest = rests;
        },
      )
      by (Some entry) is = (
        count_of (on.faults new.disk) - count_of (on.faults old.disk),
        record { mends = mends; settled = settled; nothing = λ nothing. absurd cc },
        record { counts = rose_any (on.faults old.disk) (on.faults new.disk) later; no_image = none; at_rest = rests },
      )

  pub mends_failed : (old.state.doubt ≡ None → ⊥) → new.state ≡ old.state
      → During on.moment on.since old.disk new.disk (λ _. ⊥) → IsAtRest on.leaves new → on.faults old.disk ≤ on.faults new.disk → Rises (on.faults old.disk) (on.faults new.disk) → MendsLast on old DiskFault new
  mends_failed doubted stays none rests later rises =
      let (rise, some, rose) = rose_fault (on.faults old.disk) (on.faults new.disk) later rises in (
        rise,
        record { doubted = some_is old.state.doubt doubted; stays = stays; rose = some },
        record { counts = rose; no_image = none; at_rest = rests },
      )
