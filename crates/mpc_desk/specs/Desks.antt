-- The desk: the office on the second disk.
use Rattle.std.specs.Prelude.{◌≡◌, ◌⊎◌, ℕ, ◌+◌, ◌-◌, ◌^◌, ◌<◌, min, ℤ, List, ◌∷◌, Option, Some, option_map, IfSome}
use Rattle.std.specs.Prelude.{IsSomeAnd, None}
use Rattle.call_log.specs.Counts.{Rises}
use Rattle.disk_model.specs.Crashes.{During}
use Rattle.obs_journal.specs.Journals.{JournalState, StandsFor}
use Rattle.obs_journal.specs.declared.journal.Settled.{Settled}
use Rattle.obs_journal.specs.declared.journal.Settled.TheVariants.{Added}
use Rattle.act_bodies.specs.declared.key.Key.{Key}
use Rattle.act_model.specs.declared.entry.Entry.{Entry}
use Rattle.act_model.specs.declared.keeper.Office.{Office}
use Rattle.act_model.specs.declared.keeper.OfficeState.{OfficeState}
use Rattle.act_model.specs.declared.reply.Reply.{Reply}
use Rattle.act_model.specs.declared.request.Request.{Request}
use Rattle.act_model.specs.Conducts.{EitherWay}
use Rattle.act_model.specs.Keepers.{RoseBy}
use Rattle.act_model.specs.Legal.{IsLegal}
use Rattle.act_model.specs.Refusals.{bytes_used, entry_size}
use Rattle.act_model.specs.Step.{Adds, outcome}
use Rattle.act_model.specs.Turns.{Turn, Mends, FailsToMend, FailsToKeep, Settles}
use Rattle.desk_core.specs.Office.{Office as CoreState, Ready, IsOfAct, IsReadyAt, IsRoomFor}
use Rattle.mpc_desk.specs.Files.{parcel_of, parcels_in, AreActs, Stands}

-- a desk: the founding officer's key, how many bytes the journal may have, what is settled and what is in doubt, and
-- the disk
pub record DeskState (D : Type 0) : Type 0 where
  pub founder : Key
  pub limit : ℕ
  pub state : OfficeState
  pub disk : D

-- ---- what a desk keeps

-- an act in doubt that becomes the next entry if it was kept: it was worked out here, and there is room for it
pub record IsNext (core : CoreState) (ready : Ready) : Type 0 where
  pub act : IsOfAct ready.entry
  pub at : IsReadyAt core.history ready
  pub room : IsRoomFor ready.deed core.spare
  pub space : bytes_used core.history + entry_size ready.entry.body < 2 ^ 64

-- the office as its core and the act in doubt have it
abbrev pub state_of : CoreState → Option Ready → OfficeState
state_of core doubt = record { settled = core.history; doubt = option_map (λ ready. ready.entry) doubt }

-- what a desk keeps: the journal stands for the history, with the act in doubt; the history is legal either way
pub record IsDesk {D : Type 0} (leaves : D → List ℕ → Type 0) (core : CoreState) (journal : JournalState D)
    (doubt : Option Ready) : Type 0 where
  pub stands : StandsFor leaves journal (parcels_in core.history) (option_map (λ ready. parcel_of ready.entry) doubt)
  pub space : bytes_used core.history < 2 ^ 64
  pub legal : EitherWay (IsLegal core.founder) (state_of core doubt)
  pub acts : AreActs core.history
  pub next : IfSome doubt (IsNext core)

-- ---- what a crash may leave

-- an image while the office is at rest: it stands for the settled history, or for that with the act in doubt
abbrev pub RestsAt : OfficeState → List ℕ → Type 0
RestsAt state image =
    Stands image state.settled ⊎ IsSomeAnd state.doubt (λ entry. Stands image (entry ∷ state.settled))

-- each image of the disk is one of an office at rest
abbrev pub IsAtRest : {D : Type 0} (leaves : D → List ℕ → Type 0) → DeskState D → Type 0
IsAtRest leaves desk = (image : List ℕ) → leaves desk.disk image → RestsAt desk.state image

-- an image inside an act that mending found at this history: it is one from before, or it stands for the history with
-- the entry that the act becomes there
abbrev pub MayLeave : {D : Type 0} → DeskState D → List Entry → Request → ℤ → List ℕ → Type 0
MayLeave old mended request reading image =
    RestsAt old.state image
    ⊎ ((entry : Entry) × (outcome old.founder (Some old.limit) mended request reading ≡ Adds entry)
    × Stands image (entry ∷ mended))

-- ---- turns

-- the turn of an act with this reading
abbrev pub turn_of : Request → ℤ → Reply → ℕ → Turn
turn_of request reading reply rise =
    record { request = request; reading = Some reading; reply = reply; rise = rise }

-- the count of faults; at the greatest number that its type has it stands still
abbrev pub count_of : ℕ → ℕ
count_of faults = min faults (2 ^ 64 - 1)

-- ---- an act

-- the disk failed in mending: nothing was written, and the office is as it was
pub record FailsOn {D : Type 0} (moment : D → ℕ) (since : D → ℕ → List ℕ → Type 0) (old : DeskState D) (turn : Turn)
    (new : DeskState D) : Type 0 where
  pub fails : FailsToMend old.state turn new.state
  pub no_image : During moment since old.disk new.disk (λ _. ⊥)

-- the act was taken at the history that mending left, and a crash inside it left no more than this
pub record ActsOn {D : Type 0} (moment : D → ℕ) (since : D → ℕ → List ℕ → Type 0) (old : DeskState D) (turn : Turn)
    (reading : ℤ) (new : DeskState D) : Type 0 where
  pub mended : List Entry
  pub mends : Mends old.state.settled old.state.doubt mended
  pub acts : Settles old.founder (Some old.limit) mended turn reading new.state
      ⊎ FailsToKeep old.founder (Some old.limit) mended turn reading new.state
  pub images : During moment since old.disk new.disk (MayLeave old mended turn.request reading)

-- An act at a desk: the desk before it, what was asked, at which reading of the clock, the reply, and the desk after
-- it.
pub record DeskAct (D : Type 0) : Type 0 where
  pub old : DeskState D
  pub request : Request
  pub reading : ℤ
  pub reply : Reply
  pub new : DeskState D

-- its turn, where the count of faults rose by this
abbrev pub turn_in : {D : Type 0} → DeskAct D → ℕ → Turn
turn_in act rise = turn_of act.request act.reading act.reply rise

-- An act, whatever was in doubt: by how much the count of faults rose, and what a crash inside it may leave.
pub record ActsInTurn {D : Type 0} (moment : D → ℕ) (since : D → ℕ → List ℕ → Type 0) (faults : D → ℕ) (act : DeskAct D)
    : Type 0 where
  pub rise : ℕ
  pub counts : RoseBy rise (count_of (faults act.old.disk)) (count_of (faults act.new.disk))
  pub acts : FailsOn moment since act.old (turn_in act rise) act.new
      ⊎ ActsOn moment since act.old (turn_in act rise) act.reading act.new

-- ---- the desk as a keeper

abbrev pub office_of : {D : Type 0} (faults : D → ℕ) → DeskState D → Office
office_of faults desk = record {
  founder = desk.founder;
  limit = Some desk.limit;
  state = desk.state;
  faults = count_of (faults desk.disk);
  stamps = None;
}

-- the history once the act in doubt was settled so
abbrev pub settled_by : Settled → Option Ready → List Entry → List Entry
settled_by Added (Some ready) history = ready.entry ∷ history
settled_by _ _ history = history

-- ---- an act where nothing was in doubt

-- An act that is taken at the settled history: nothing is in doubt after it; or the disk's count rose, and its entry
-- isn't kept, or is in doubt. A crash inside it leaves no more than the history with its entry.
pub record TakesAct {D : Type 0} (moment : D → ℕ) (since : D → ℕ → List ℕ → Type 0) (faults : D → ℕ) (act : DeskAct D)
    : Type 0 where
  pub acts : ((rise : ℕ)
      → Settles act.old.founder (Some act.old.limit) act.old.state.settled (turn_in act rise) act.reading act.new.state)
      ⊎ (Rises (faults act.old.disk) (faults act.new.disk) × ((rise : ℕ) → 0 < rise
      → FailsToKeep act.old.founder (Some act.old.limit) act.old.state.settled (turn_in act rise) act.reading
      act.new.state))
  pub images : During moment since act.old.disk act.new.disk
      (MayLeave act.old act.old.state.settled act.request act.reading)
