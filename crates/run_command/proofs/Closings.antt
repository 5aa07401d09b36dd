-- The last mending, and what it does to a desk.
use Rattle.std.proofs.Common.{◌≡◌, ℕ, ◌-◌, ◌<◌, ◌≤◌, List, [], ◌∷◌, Option, Some, None, refl, sym, subst, inl, inr, zero, suc, arith}
use Rattle.std.specs.Prelude.{IfSome}
use Rattle.call_log.specs.Counts.{Rises}
use Rattle.disk_model.specs.Moments.{during_nothing}
use Rattle.act_model.specs.declared.entry.Entry.{Entry}
use Rattle.act_model.specs.declared.keeper.OfficeState.{OfficeState}
use Rattle.act_model.specs.Conducts.{Extends, EitherWay}
use Rattle.act_model.specs.Keepers.{RoseBy}
use Rattle.act_model.specs.Turns.{Mends}
use Rattle.mpc_desk.specs.Desks.{DeskState, IsAtRest, count_of}
use Rattle.frame_service.specs.declared.serving.Stop.{Stop}
use Rattle.frame_service.specs.declared.serving.Stop.TheVariants as stop
use Rattle.command_ends.specs.declared.status.Status.{Status}
use Rattle.command_ends.specs.declared.status.Status.TheVariants.{Done, Usage, BadFrame, DiskFault, Damaged, ReadFault, WriteFault, NoMemory, DoorFault, MirrorFault, TooMany}
use Rattle.command_ends.specs.Disks.{DiskWords}
use Rattle.command_ends.specs.Closing.{IsClosed}
use Rattle.run_command.specs.Closing.{Finishes}

-- ---- counts

pub rise_between : (a b : ℕ) → a ≤ b → RoseBy (count_of b - count_of a) (count_of a) (count_of b)
rise_between a b later = omega arith

no_rise : (a : ℕ) → RoseBy 0 (count_of a) (count_of a)
no_rise a = omega arith

pub rises_by : (a b rise : ℕ) → 0 < rise → RoseBy rise (count_of a) (count_of b) → Rises a b
rises_by a b rise some rose = omega arith

pub never_rose : (a b rise : ℕ) → (Rises a b → ⊥) → RoseBy rise (count_of a) (count_of b) → rise ≡ 0
never_rose a b rise never rose = by rise rose
  where
    by : (rise : ℕ) → RoseBy rise (count_of a) (count_of b) → rise ≡ 0
    by zero rose = refl
    by (suc n) rose = absurd (never (rises_by a b (suc n) (omega arith) rose))

-- ---- why serving stopped

-- where serving stopped since the source failed, the end says so
pub read_failed : {D : Type 0} (on : DiskWords D) (old new : DeskState D) (why : Stop) (status : Status) → Finishes on old why status new → why ≡ stop.ReadFailed → status ≡ ReadFault
read_failed on old new stop.Over status ends is = absurd cc
read_failed on old new (stop.NoFrameAt offset) status ends is = absurd cc
read_failed on old new stop.ReadFailed status ends is = ends.0
read_failed on old new stop.WriteFailed status ends is = absurd cc

-- where it stopped since the sink failed, the end says so
pub write_failed : {D : Type 0} (on : DiskWords D) (old new : DeskState D) (why : Stop) (status : Status) → Finishes on old why status new → why ≡ stop.WriteFailed → status ≡ WriteFault
write_failed on old new stop.Over status ends is = absurd cc
write_failed on old new (stop.NoFrameAt offset) status ends is = absurd cc
write_failed on old new stop.ReadFailed status ends is = absurd cc
write_failed on old new stop.WriteFailed status ends is = ends.0

-- ---- what was in doubt

pub nothing_mended : (past : List Entry) (doubt : Option Entry) → Mends past doubt past
nothing_mended past None = refl
nothing_mended past (Some entry) = inr refl

pub mended_extends : (past : List Entry) (doubt : Option Entry) (mended : List Entry) → Mends past doubt mended → Extends past mended
mended_extends past None mended is = ([], is)
mended_extends past (Some entry) mended (inl is) = (entry ∷ [], is)
mended_extends past (Some entry) mended (inr is) = ([], is)

pub mended_has : (P : List Entry → Type 0) (state : OfficeState) (mended : List Entry) → EitherWay P state → Mends state.settled state.doubt mended → P mended
mended_has P state mended has mends = by state.doubt has.1 mends
  where
    by : (doubt : Option Entry) → IfSome doubt (λ entry. P (entry ∷ state.settled)) → Mends state.settled doubt mended → P mended
    by None with is = subst P (sym is) has.0
    by (Some entry) with (inl is) = subst P (sym is) with
    by (Some entry) with (inr is) = subst P (sym is) has.0

pub mended_none : (state : OfficeState) (mended : List Entry) → state.doubt ≡ None → Mends state.settled state.doubt mended → mended ≡ state.settled
mended_none state mended none mends = by state.doubt none mends
  where
    by : (doubt : Option Entry) → doubt ≡ None → Mends state.settled doubt mended → mended ≡ state.settled
    by None none is = is
    by (Some entry) none mends = absurd cc

-- ---- the last mending

module _ {D : Type 0} (on : DiskWords D) where
  -- a desk to which nothing is done is closed as it is
  pub closed_as_is : (desk : DeskState D) → IsAtRest on.leaves desk → IsClosed on 0 desk desk
  closed_as_is desk rests = record { counts = no_rise (on.faults desk.disk); no_image = during_nothing desk.disk (λ _. ⊥); at_rest = rests }

  module _ (old new : DeskState D) where
    left_alone : new ≡ old → Mends old.state.settled old.state.doubt new.state.settled
    left_alone same = subst (λ (d : DeskState D). Mends old.state.settled old.state.doubt d.state.settled) (sym same) (nothing_mended old.state.settled old.state.doubt)

    -- the end settles what was in doubt, or leaves it
    pub finish_mends : (stopped : Stop) (status : Status) → Finishes on old stopped status new → Mends old.state.settled old.state.doubt new.state.settled
    finish_mends stop.Over Done (rise, mended, closed) = mended.mends
    finish_mends stop.Over DiskFault (rise, doubted, closed) =
        subst (λ (s : OfficeState). Mends old.state.settled old.state.doubt s.settled) (sym doubted.stays) (nothing_mended old.state.settled old.state.doubt)
    finish_mends stop.Over Usage ends = absurd ends
    finish_mends stop.Over (BadFrame offset) ends = absurd ends
    finish_mends stop.Over (Damaged file offset) ends = absurd ends
    finish_mends stop.Over ReadFault ends = absurd ends
    finish_mends stop.Over WriteFault ends = absurd ends
    finish_mends stop.Over NoMemory ends = absurd ends
    finish_mends stop.Over DoorFault ends = absurd ends
    finish_mends stop.Over MirrorFault ends = absurd ends
    finish_mends stop.Over (TooMany count) ends = absurd ends
    finish_mends (stop.NoFrameAt offset) status (is, same) = left_alone same
    finish_mends stop.ReadFailed status (is, same) = left_alone same
    finish_mends stop.WriteFailed status (is, same) = left_alone same
