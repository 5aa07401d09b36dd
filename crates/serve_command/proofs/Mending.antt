-- The last mending, and the end of a call.
use Rattle.std.proofs.Common.{◌≡◌, ℕ, zero, suc, ◌+◌, ◌-◌, ◌≤◌, List, [], ◌∷◌, ◌++◌, Option, Some, None, IfSome, refl, sym, ap, subst, inl, inr, arith}
use Rattle.std.specs.Prelude.{◌⊎◌}
use Rattle.std.specs.List.{AllByRecursion}
use Rattle.std.proofs.lemmas.List.Sums.{sum_by-cons}
use Rattle.call_log.specs.Counts.{Rises}
use Rattle.act_bodies.specs.declared.key.Key.{Key}
use Rattle.act_model.specs.declared.entry.Entry.{Entry}
use Rattle.act_model.specs.declared.keeper.OfficeState.{OfficeState}
use Rattle.act_model.specs.Conducts.{EitherWay, Extends}
use Rattle.act_model.specs.Keepers.{RoseBy}
use Rattle.act_model.specs.Legal.{IsLegal}
use Rattle.act_model.specs.Turns.{Mends}
use Rattle.intake_lock.specs.declared.view.Item.{Item}
use Rattle.intake_lock.specs.Items.{RisesBy, rises}
use Rattle.http_connection.specs.Calls.{HasCause}
use Rattle.mpc_desk.specs.Desks.{DeskState, count_of}
use Rattle.command_ends.specs.declared.status.Status.{Status}
use Rattle.command_ends.specs.declared.status.Status.TheVariants.{Done, Usage, BadFrame, DiskFault, Damaged, ReadFault, WriteFault, NoMemory, DoorFault, MirrorFault, TooMany}
use Rattle.command_ends.specs.Disks.{DiskWords}
use Rattle.command_ends.specs.Closing.{IsMended, IsStillInDoubt, IsClosed, MendsLast}
use Rattle.serve_command.specs.declared.accepting.Stop.{Stop}
use Rattle.serve_command.specs.declared.accepting.Stop.TheVariants as stops
use Rattle.serve_command.specs.Runs.{first_fault, Writes}
use Rattle.serve_command.specs.Serving.{IsNoDiskFault}
use Rattle.serve_command.specs.Summaries.{summary}
use Rattle.serve_command.proofs.Gathering.{extends_on}

-- ---- what mending leaves

-- an act in doubt was mended or the disk failed
pub record Closed {D : Type 0} (on : DiskWords D) (left last : DeskState D) : Type 0 where
  pub rise : ℕ
  pub does : IsMended left.state rise last.state ⊎ IsStillInDoubt left.state rise last.state
  pub closed : IsClosed on rise left last

-- whatever the status
pub closed_so : {D : Type 0} (on : DiskWords D) (left last : DeskState D) (mended : Status) → MendsLast on left mended last → Closed on left last
closed_so on left last Done (rise, does, closed) = record { rise = rise; does = inl does; closed = closed }
closed_so on left last DiskFault (rise, does, closed) = record { rise = rise; does = inr does; closed = closed }
closed_so on left last Usage mends = absurd mends
closed_so on left last (BadFrame offset) mends = absurd mends
closed_so on left last (Damaged file offset) mends = absurd mends
closed_so on left last ReadFault mends = absurd mends
closed_so on left last WriteFault mends = absurd mends
closed_so on left last NoMemory mends = absurd mends
closed_so on left last DoorFault mends = absurd mends
closed_so on left last MirrorFault mends = absurd mends
closed_so on left last (TooMany count) mends = absurd mends

-- mending settles no less than there was, and stays legal
pub mends_extends : (past : List Entry) (doubt : Option Entry) (mended : List Entry) → Mends past doubt mended → Extends past mended
mends_extends past None mended same = ([], same)
mends_extends past (Some entry) mended (inl added) = (entry ∷ [], added)
mends_extends past (Some entry) mended (inr same) = ([], same)

pub mends_legal : (founder : Key) (past : List Entry) (doubt : Option Entry) (mended : List Entry) → Mends past doubt mended → IsLegal founder past
    → IfSome doubt (λ entry. IsLegal founder (entry ∷ past)) → IsLegal founder mended
mends_legal founder past None mended same legal either_way = subst (IsLegal founder) (sym same) legal
mends_legal founder past (Some entry) mended (inl added) legal either_way = subst (IsLegal founder) (sym added) either_way
mends_legal founder past (Some entry) mended (inr same) legal either_way = subst (IsLegal founder) (sym same) legal

module _ (left last : OfficeState) (rise : ℕ) where
  pub mending_extends : IsMended left rise last ⊎ IsStillInDoubt left rise last → Extends left.settled last.settled
  mending_extends (inl is) = mends_extends left.settled left.doubt last.settled is.mends
  mending_extends (inr is) = ([], ap (λ (s : OfficeState). s.settled) is.stays)

  stays_legal : (founder : Key) → EitherWay (IsLegal founder) left → IsMended left rise last ⊎ IsStillInDoubt left rise last
      → EitherWay (IsLegal founder) last
  stays_legal founder legal (inl is) = (
    mends_legal founder left.settled left.doubt last.settled is.mends legal.0 legal.1,
    subst (λ (d : Option Entry). IfSome d (λ entry. IsLegal founder (entry ∷ last.settled))) (sym is.settled) tt,
  )
  stays_legal founder legal (inr is) = subst (EitherWay (IsLegal founder)) (sym is.stays) legal

module _ {D : Type 0} (on : DiskWords D) (left last : DeskState D) (closed : Closed on left last) where
  -- the history at the end extends the one at the opening
  pub extends_to : (first newer : List Entry) → left.state.settled ≡ newer ++ first → Extends first last.state.settled
  extends_to first newer grown =
      extends_on first left.state.settled last.state.settled (newer, grown) (mending_extends left.state last.state closed.rise closed.does)

  -- it is legal, also with an act in doubt
  pub ends_legal : (founder : Key) (opened : DeskState D) → opened.founder ≡ founder → IsLegal founder opened.state.settled
      → (IsLegal opened.founder opened.state.settled → EitherWay (IsLegal opened.founder) left.state) → EitherWay (IsLegal founder) last.state
  ends_legal founder opened same legal stays =
      subst (λ (k : Key). EitherWay (IsLegal k) last.state) same
      (stays_legal left.state last.state closed.rise opened.founder (stays (subst (λ (k : Key). IsLegal k opened.state.settled) (sym same) legal)) closed.does)

-- ---- counts

pub rose_between : (a b : ℕ) → a ≤ b → RoseBy (count_of b - count_of a) (count_of a) (count_of b)
rose_between a b later = omega arith

pub rises_at_least : (a b rise : ℕ) → RoseBy rise (count_of a) (count_of b) → RisesBy rise (count_of a) (count_of b)
rises_at_least a b rise rose = omega arith

-- the count rose in opening, in the calls and in the last mending
pub counted : (a b c d opening calls mending : ℕ) → RoseBy opening (count_of a) (count_of b) → RisesBy calls (count_of b) (count_of c)
    → RoseBy mending (count_of c) (count_of d) → RisesBy (opening + calls + mending) (count_of a) (count_of d)
counted a b c d opening calls mending first second third = omega arith

-- a count that rose by some number and not at all
pub no_rise : (a b sum : ℕ) → (Rises a b → ⊥) → RisesBy sum (count_of a) (count_of b) → sum ≡ 0
no_rise a b sum never counts = by sum counts
  where
    by : (sum : ℕ) → RisesBy sum (count_of a) (count_of b) → sum ≡ 0
    by zero rose = refl
    by (suc n) rose = absurd (never (omega arith))

-- where it didn't rise, it rose in no call
pub no_call_rose : (a b opening calls mending : ℕ) → (Rises a b → ⊥) → RisesBy (opening + calls + mending) (count_of a) (count_of b) → calls ≡ 0
no_call_rose a b opening calls mending never counts =
    let none : opening + calls + mending ≡ 0 = no_rise a b (opening + calls + mending) never counts in omega arith

-- where the count rose in no call, none is answered that the disk failed
pub quiet_calls : (items : List Item) → rises items ≡ 0 → AllByRecursion HasCause items → AllByRecursion IsNoDiskFault items
quiet_calls [] none causes = tt
quiet_calls (item ∷ items) none causes =
    let sum : rises (item ∷ items) ≡ item.rise + rises items = sum_by-cons (λ (i : Item). i.rise) item items in (
      λ doubt reply. let rose = causes.0 doubt reply in absurd (omega arith),
      quiet_calls items (omega arith) causes.1,
    )

-- ---- statuses

-- a status that the links and the last mending may leave
abbrev pub IsFromMending : Status → Type 0
IsFromMending Done = Unit {0}
IsFromMending DiskFault = Unit {0}
IsFromMending DoorFault = Unit {0}
IsFromMending NoMemory = Unit {0}
IsFromMending Usage = ⊥
IsFromMending (BadFrame offset) = ⊥
IsFromMending (Damaged file offset) = ⊥
IsFromMending ReadFault = ⊥
IsFromMending WriteFault = ⊥
IsFromMending MirrorFault = ⊥
IsFromMending (TooMany count) = ⊥

module _ {D : Type 0} (on : DiskWords D) (left last : DeskState D) where
  mended_so : (mended : Status) → MendsLast on left mended last → IsFromMending mended
  mended_so Done mends = tt
  mended_so DiskFault mends = tt
  mended_so Usage mends = mends
  mended_so (BadFrame offset) mends = mends
  mended_so (Damaged file offset) mends = mends
  mended_so ReadFault mends = mends
  mended_so WriteFault mends = mends
  mended_so NoMemory mends = tt
  mended_so DoorFault mends = tt
  mended_so MirrorFault mends = mends
  mended_so (TooMany count) mends = mends

  pub first_so : (stop : Option Stop) (mended : Status) → MendsLast on left mended last → IsFromMending (first_fault stop mended)
  first_so (Some stops.Full) mended mends = mended_so mended mends
  first_so (Some stops.Shut) mended mends = mended_so mended mends
  first_so (Some stops.Failed) mended mends = tt
  first_so (Some stops.NoMemory) mended mends = tt
  first_so None mended mends = tt

  -- the sink hasn't failed so far
  pub no_write_so_far : (stop : Option Stop) (mended so_far : Status) → so_far ≡ first_fault stop mended → MendsLast on left mended last → so_far ≡ WriteFault → ⊥
  no_write_so_far stop mended so_far same mends is =
      subst IsFromMending is (subst IsFromMending (sym same) (first_so stop mended mends))

-- the lines are those of these numbers, and the status so far is that of these
pub writes_as : (one so_far status : Status) (Unwritten : Type 0) (old new : Option (List ℕ)) (links ends acts entries : ℕ) → one ≡ so_far → links ≡ ends
    → acts ≡ entries → Writes one Unwritten old new (summary links acts) status
    → Writes so_far Unwritten old new (summary ends entries) status
writes_as one so_far status Unwritten old new links ends acts entries same first second writes =
    subst (λ (s : Status). Writes s Unwritten old new (summary ends entries) status) same
    (subst (λ (n : ℕ). Writes one Unwritten old new (summary ends n) status) second
    (subst (λ (n : ℕ). Writes one Unwritten old new (summary n acts) status) first writes))
