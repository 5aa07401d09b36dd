-- The last mending, and what it does to a register.
use Rattle.std.proofs.Common.{◌≡◌, ℕ, ◌-◌, ◌<◌, ◌≤◌, List, [], ◌∷◌, Option, Some, None, refl, sym, subst, inl, inr, ⊎_elim, zero, suc, arith}
use Rattle.std.specs.Prelude.{IfSome, IsSome}
use Rattle.call_log.specs.Counts.{Rises}
use Rattle.disk_model.specs.Crashes.{During}
use Rattle.disk_model.specs.Moments.{during_nothing}
use Rattle.frame_service.specs.declared.serving.Stop.{Stop}
use Rattle.frame_service.specs.declared.serving.Stop.TheVariants as stop
use Rattle.act_model.specs.declared.entry.Entry.{Entry}
use Rattle.act_model.specs.declared.keeper.OfficeState.{OfficeState}
use Rattle.act_model.specs.Conducts.{Extends, EitherWay}
use Rattle.act_model.specs.Keepers.{RoseBy}
use Rattle.act_model.specs.Turns.{Mends}
use Rattle.mpc_desk.specs.Desks.{count_of}
use Rattle.command_ends.specs.declared.status.Status.{Status}
use Rattle.command_ends.specs.declared.status.Status.TheVariants.{Done, DiskFault, ReadFault, WriteFault}
use Rattle.command_ends.specs.Disks.{DiskWords, DiskRose}
use Rattle.comet_desk.specs.Desks.{CometDeskState, IsAtRest}
use Rattle.comets_command.specs.Closing.{IsClosed, MendsLast, Finishes}

-- ---- counts

pub rise_between : (a b : ℕ) → a ≤ b → RoseBy (count_of b - count_of a) (count_of a) (count_of b)
rise_between a b later = omega arith

no_rise : (a : ℕ) → RoseBy 0 (count_of a) (count_of a)
no_rise a = omega arith

pub rises_by : (a b rise : ℕ) → 0 < rise → RoseBy rise (count_of a) (count_of b) → Rises a b
rises_by a b rise some rose = omega arith

pub never_rose : (a b rise : ℕ) → (Rises a b → ⊥) → RoseBy rise (count_of a) (count_of b) → rise ≡ 0
never_rose a b rise never rose = by rise rose
  where
    by : (rise : ℕ) → RoseBy rise (count_of a) (count_of b) → rise ≡ 0
    by zero rose = refl
    by (suc n) rose = absurd (never (rises_by a b (suc n) (omega arith) rose))

-- a count that rose, and by how much
pub rise_of : (a b : ℕ) → a ≤ b → Rises a b → (rise : ℕ) × (0 < rise) × RoseBy rise (count_of a) (count_of b)
rise_of a b later rises = by (count_of b - count_of a) refl
  where
    by : (n : ℕ) → n ≡ count_of b - count_of a → (rise : ℕ) × (0 < rise) × RoseBy rise (count_of a) (count_of b)
    by zero is = (1, omega arith, omega (arith, is, later, rises))
    by (suc n) is = (suc n, omega arith, omega (arith, is, later))

-- ---- why serving stopped

-- where serving stopped since the source failed, the end says so
pub read_failed : {D : Type 0} (on : DiskWords D) (old new : CometDeskState D) (why : Stop) (status : Status) → Finishes on old why status new → why ≡ stop.ReadFailed → status ≡ ReadFault
read_failed on old new stop.Over status ends is = absurd cc
read_failed on old new (stop.NoFrameAt offset) status ends is = absurd cc
read_failed on old new stop.ReadFailed status ends is = ends.0
read_failed on old new stop.WriteFailed status ends is = absurd cc

-- where it stopped since the sink failed, the end says so
pub write_failed : {D : Type 0} (on : DiskWords D) (old new : CometDeskState D) (why : Stop) (status : Status) → Finishes on old why status new → why ≡ stop.WriteFailed → status ≡ WriteFault
write_failed on old new stop.Over status ends is = absurd cc
write_failed on old new (stop.NoFrameAt offset) status ends is = absurd cc
write_failed on old new stop.ReadFailed status ends is = absurd cc
write_failed on old new stop.WriteFailed status ends is = ends.0

-- ---- what was in doubt

pub nothing_mended : (past : List Entry) (doubt : Option Entry) → Mends past doubt past
nothing_mended past None = refl
nothing_mended past (Some entry) = inr refl

pub mended_extends : (past : List Entry) (doubt : Option Entry) (mended : List Entry) → Mends past doubt mended → Extends past mended
mended_extends past None mended is = ([], is)
mended_extends past (Some entry) mended (inl is) = (entry ∷ [], is)
mended_extends past (Some entry) mended (inr is) = ([], is)

pub mended_has : (P : List Entry → Type 0) (state : OfficeState) (mended : List Entry) → EitherWay P state → Mends state.settled state.doubt mended → P mended
mended_has P state mended has mends = by state.doubt has.1 mends
  where
    by : (doubt : Option Entry) → IfSome doubt (λ entry. P (entry ∷ state.settled)) → Mends state.settled doubt mended → P mended
    by None with is = subst P (sym is) has.0
    by (Some entry) with (inl is) = subst P (sym is) with
    by (Some entry) with (inr is) = subst P (sym is) has.0

pub mended_none : (state : OfficeState) (mended : List Entry) → state.doubt ≡ None → Mends state.settled state.doubt mended → mended ≡ state.settled
mended_none state mended none mends = by state.doubt none mends
  where
    by : (doubt : Option Entry) → doubt ≡ None → Mends state.settled doubt mended → mended ≡ state.settled
    by None none is = is
    by (Some entry) none mends = absurd cc

some_is : (o : Option Entry) → (o ≡ None → ⊥) → IsSome o
some_is None never = absurd (never refl)
some_is (Some entry) never = refl

-- ---- the last mending

module _ {D : Type 0} (on : DiskWords D) where
  -- a register to which nothing is done is closed as it is
  pub closed_as_is : (register : CometDeskState D) → IsAtRest on.leaves register → IsClosed on 0 register register
  closed_as_is register rests = record { counts = no_rise (on.faults register.disk); no_image = during_nothing register.disk (λ _. ⊥); at_rest = rests }

  module _ (old new : CometDeskState D) where
    pub mends_done : Mends old.state.settled old.state.doubt new.state.settled → new.state.doubt ≡ None → (old.state.doubt ≡ None → new ≡ old)
        → During on.moment on.since old.disk new.disk (λ _. ⊥) → IsAtRest on.leaves new → on.faults old.disk ≤ on.faults new.disk → MendsLast on old Done new
    mends_done mends settled no_call none rests later = by old.state.doubt refl
      where
        by : (doubt : Option Entry) → old.state.doubt ≡ doubt → MendsLast on old Done new
        by None is = record {
          rise = 0;
          closed = record {
            counts = subst (λ (d : CometDeskState D). DiskRose on 0 old.disk d.disk) (sym (no_call is)) (no_rise (on.faults old.disk));
            no_image = none;
            at_rest = rests;
          };
          mends = inl (refl, record { mends = mends; settled = settled; nothing = λ _. refl });
        }
        by (Some entry) is = record {
          rise = count_of (on.faults new.disk) - count_of (on.faults old.disk);
          closed = record { counts = rise_between (on.faults old.disk) (on.faults new.disk) later; no_image = none; at_rest = rests };
          mends = inl (refl, record { mends = mends; settled = settled; nothing = λ nothing. absurd cc });
        }

    pub mends_failed : (old.state.doubt ≡ None → ⊥) → new.state ≡ old.state
        → During on.moment on.since old.disk new.disk (λ _. ⊥) → IsAtRest on.leaves new → on.faults old.disk ≤ on.faults new.disk → Rises (on.faults old.disk) (on.faults new.disk) → MendsLast on old DiskFault new
    mends_failed doubted stays none rests later rises =
        let (rise, some, rose) = rise_of (on.faults old.disk) (on.faults new.disk) later rises in
        record {
          rise = rise;
          closed = record { counts = rose; no_image = none; at_rest = rests };
          mends = inr (refl, record { doubted = some_is old.state.doubt doubted; stays = stays; rose = some });
        }

    left_alone : new ≡ old → Mends old.state.settled old.state.doubt new.state.settled
    left_alone same = subst (λ (d : CometDeskState D). Mends old.state.settled old.state.doubt d.state.settled) (sym same) (nothing_mended old.state.settled old.state.doubt)

    pub doubt_stays : new.state ≡ old.state → Mends old.state.settled old.state.doubt new.state.settled
    doubt_stays stays = subst (λ (s : OfficeState). Mends old.state.settled old.state.doubt s.settled) (sym stays) (nothing_mended old.state.settled old.state.doubt)

    last_mends : (status : Status) → MendsLast on old status new → Mends old.state.settled old.state.doubt new.state.settled
    last_mends status last = ⊎_elim (λ done. done.1.mends) (λ doubted. doubt_stays doubted.1.stays) last.mends

    -- the end settles what was in doubt, or leaves it
    pub finish_mends : (stopped : Stop) (status : Status) → Finishes on old stopped status new → Mends old.state.settled old.state.doubt new.state.settled
    finish_mends stop.Over status last = last_mends status last
    finish_mends (stop.NoFrameAt offset) status (is, same) = left_alone same
    finish_mends stop.ReadFailed status (is, same) = left_alone same
    finish_mends stop.WriteFailed status (is, same) = left_alone same
