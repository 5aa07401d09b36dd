-- How an office is carried over.
use Rattle.std.proofs.Common.{◌≡◌, ◌≢◌, ℕ, ◌<◌, ◌≤◌, List, None, Result, Err, refl, sym, subst, inl, inr, le_refl}
use Rattle.std.specs.Prelude.{◌^◌, IfSome, IsSome}
use Rattle.call_log.specs.Counts.{Rises}
use Rattle.disk_model.specs.Crashes.{During}
use Rattle.obs_journal.specs.declared.fault.OpenFault.{OpenFault}
use Rattle.obs_journal.specs.declared.fault.OpenFault.TheVariants.{DiskFault, Damaged}
use Rattle.obs_journal.specs.Parcels.{RawParcel}
use Rattle.obs_journal.specs.Files.{Spells}
use Rattle.obs_journal.specs.Journals.{JournalState, StandsFor, IsUnwritten}
use Rattle.obs_journal.specs.Moves.{IsCarriedInto}
use Rattle.obs_journal.specs.Opening.{SpellsAlike}
use Rattle.act_bodies.specs.declared.key.Key.{Key}
use Rattle.act_model.specs.Legal.{IsLegal}
use Rattle.desk_core.specs.Office.{Office}
use Rattle.mpc_desk.specs.Desks.{state_of}
use Rattle.mpc_desk.specs.Disks.{DiskWords}
use Rattle.mpc_desk.specs.Files.{parcels_in, AreActs, StandsFirst}
use Rattle.mpc_desk.specs.Pairs.{pair}
use Rattle.mpc_desk.specs.Opening.{IsDamagedFirst, IsMoved, IsNotMoved}
use Rattle.mpc_desk.proofs.Opened.{opened_desk, rests_opened, if_some}

pub err_same : {A : Type 0} (f g : OpenFault) → ◌≡◌ {A = Result A OpenFault} (Err f) (Err g) → f ≡ g
err_same f g is = cc

module _ {D : Type 0} (on : DiskWords D) (founder : Key) (first second first_now : D) (moment : During on.moment on.since first first_now (SpellsAlike (on.reads first))) (counts : on.faults first ≤ on.faults first_now) where
  -- the second disk wasn't called
  pub not_moved : (fault : OpenFault) → (fault ≡ DiskFault → Rises (on.faults first) (on.faults first_now))
      → ((file offset : ℕ) → fault ≡ Damaged file offset → (file ≡ 1) × IfSome (on.reads first) (λ bytes. IsDamagedFirst founder bytes offset))
      → (fault ≢ DiskFault → IsSome (on.reads first) → IsUnwritten on.reads on.moment on.since first first_now) → IsNotMoved on founder (pair first second) fault (pair first_now second)
  not_moved fault rises damaged kept = record {
    cause = λ is. inl (rises is);
    damaged = damaged;
    first_moment = moment;
    second_moment = inl refl;
    first_unwritten = kept;
    second_uncalled = λ other. refl;
    counts = record { first = counts; second = le_refl _ };
  }

  -- the second disk failed
  pub move_failed : (now : D) (parcels : List RawParcel) → IfSome (on.reads first) (λ file. Spells file parcels) → During on.moment on.since second now (IsCarriedInto (on.reads second) parcels)
      → on.faults second ≤ on.faults now → Rises (on.faults second) (on.faults now) → IsNotMoved on founder (pair first second) DiskFault (pair first_now now)
  move_failed now parcels spelled carries later rises = record {
    cause = λ is. inr rises;
    damaged = λ file offset is. absurd cc;
    first_moment = moment;
    second_moment = inr (parcels, spelled, carries);
    first_unwritten = λ other. absurd (other refl);
    second_uncalled = λ other. absurd (other refl);
    counts = record { first = counts; second = later };
  }

  -- the office was carried over
  pub moved_over : (limit : ℕ) (core : Office) (journal : JournalState D) (parcels : List RawParcel) → core.founder ≡ founder → IfSome (on.reads first) (λ file. Spells file parcels)
      → During on.moment on.since second journal.disk (IsCarriedInto (on.reads second) parcels) → on.faults second ≤ on.faults journal.disk
      → StandsFor on.leaves journal parcels None → journal.reached.position < 2 ^ 64 → parcels_in core.history ≡ parcels → IsLegal core.founder core.history → AreActs core.history
      → IsMoved on founder limit (pair first second) first_now (record { founder = core.founder; limit = limit; state = state_of core None; disk = journal.disk })
  moved_over limit core journal parcels same spelled carries later stands fits taken legal acts = record {
    founder_is = same;
    limit_is = refl;
    settled = refl;
    stood = if_some (on.reads first) (λ file. Spells file parcels) (λ file. StandsFirst file core.history) (λ file spells. record { spelled = subst (Spells file) (sym taken) spells; acts = acts }) spelled;
    legal = subst (λ (k : Key). IsLegal k core.history) same legal;
    at_rest = rests_opened on.leaves core journal (opened_desk on.leaves core journal parcels stands fits taken legal acts);
    first_moment = moment;
    carried = (parcels, spelled, carries);
    first_counts = counts;
    second_counts = later;
  }
