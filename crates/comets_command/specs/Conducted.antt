-- Conducts of the register on its disk: how its entries follow one another, and what a crash inside them may leave.
use Rattle.std.specs.Prelude.{◌≡◌, ◌⊎◌, true, ℕ, ◌≤◌, ℤ, pos, List, [], ◌∷◌, Option, Some, None, option_to_list}
use Rattle.std.proofs.Common.{inl, inr}
use Rattle.disk_model.specs.Crashes.{During}
use Rattle.act_model.specs.declared.deed.Deed.{Deed}
use Rattle.act_model.specs.declared.entry.Entry.{Entry}
use Rattle.act_model.specs.declared.keeper.OfficeState.{OfficeState}
use Rattle.act_model.specs.Clocks.{ClockState, Gives}
use Rattle.act_model.specs.Conducts.{Extends}
use Rattle.mpc_desk.specs.Desks.{RestsAt}
use Rattle.mpc_desk.specs.Files.{Stands}
use Rattle.command_ends.specs.Disks.{DiskWords, DiskRose}
use Rattle.comet_model.specs.declared.reply.CometReply.{CometReply}
use Rattle.comet_model.specs.declared.reply.CometReply.TheVariants.{Done}
use Rattle.comet_model.specs.declared.request.CometRequest.{CometRequest}
use Rattle.comet_model.specs.Conducts.{IsAcknowledged}
use Rattle.comet_model.specs.Requests.{is_act}
use Rattle.comet_model.specs.Step.{Adds}
use Rattle.comet_model.specs.Turns.{CometTurn, TakesReading, Answers}
use Rattle.comet_desk.specs.Desks.{CometDeskState, IsAtRest, ActsInTurn}
use Rattle.comet_desk.specs.Files.{HoldsEntries}
use Rattle.comets_command.specs.Terms.{Terms, outcome_in, IsLegalIn, TakesIn, IsTurnIn, ConductIn}

-- ---- what a crash may leave

-- an image inside a turn: its act becomes an entry, and the image stands for the entries that mending left, with this
-- one
abbrev pub InsideTurn : (terms : Terms) (before : OfficeState) (turn : CometTurn) (reading : Option ℤ)
    (after : OfficeState) → TakesIn terms before turn reading after → List ℕ → Type 0
InsideTurn terms before turn None after asks image = ⊥
InsideTurn terms before turn (Some reading) after (inl fails) image = ⊥
InsideTurn terms before turn (Some reading) after (inr acts) image =
    (entry : Entry) × (outcome_in terms acts.mended turn.request reading ≡ Adds entry)
    × Stands image (entry ∷ acts.mended)

-- an image at some moment of a turn: it is one of a register at rest, before or after it, or one inside it
abbrev pub LeavesInTurn : (terms : Terms) (before : OfficeState) (turn : CometTurn) (after : OfficeState)
    → IsTurnIn terms before turn after → List ℕ → Type 0
LeavesInTurn terms before turn after is image =
    RestsAt before image ⊎ (InsideTurn terms before turn turn.reading after is.takes image ⊎ RestsAt after image)

-- an image at some moment of a conduct: it is one of a register at rest, before or after one of the turns, or one
-- inside a turn
abbrev pub LeavesIn : (terms : Terms) (before : OfficeState) (turns : List CometTurn) (after : OfficeState)
    → ConductIn terms before turns after → List ℕ → Type 0
LeavesIn terms before [] after conduct image = RestsAt before image
LeavesIn terms before (turn ∷ turns) after (between, is, later) image =
    RestsAt before image
    ⊎ (InsideTurn terms before turn turn.reading between is.takes image
    ⊎ LeavesIn terms between turns after later image)

-- an image at some moment of a run, its opening included: it holds the entries at which the run began, or is one of the
-- conduct
abbrev pub LeavesAt : (terms : Terms) (before : OfficeState) (turns : List CometTurn) (after : OfficeState)
    → ConductIn terms before turns after → List ℕ → Type 0
LeavesAt terms before turns after conduct image =
    HoldsEntries image before.settled ⊎ LeavesIn terms before turns after conduct image

-- ---- how lists of entries follow one another

-- these entries are an end of each settled list of the conduct
abbrev pub IsEndOfEach : List Entry → (terms : Terms) (before : OfficeState) (turns : List CometTurn)
    (after : OfficeState) → ConductIn terms before turns after → Type 0
IsEndOfEach entries terms before [] after conduct = Extends entries before.settled
IsEndOfEach entries terms before (turn ∷ turns) after (between, is, later) =
    Extends entries before.settled × IsEndOfEach entries terms between turns after later

-- each settled list of a conduct is an end of every later one
abbrev pub Grows : (terms : Terms) (before : OfficeState) (turns : List CometTurn) (after : OfficeState)
    → ConductIn terms before turns after → Type 0
Grows terms before [] after conduct = Unit {0}
Grows terms before (turn ∷ turns) after (between, is, later) =
    IsEndOfEach before.settled terms between turns after later × Grows terms between turns after later

-- ---- turns on a disk

-- each image of the disk is one of a register at rest that stands so
abbrev pub Rests : {D : Type 0} → DiskWords D → D → OfficeState → Type 0
Rests on disk state = (image : List ℕ) → on.leaves disk image → RestsAt state image

-- A turn, from the disk as it was before to the disk as it was when the reply was given: by how much the count of
-- faults rose, and what a crash at some moment of the turn may leave. The disk is at rest after it if it was before.
pub record TurnOn {D : Type 0} (on : DiskWords D) (terms : Terms) (before : OfficeState) (turn : CometTurn)
    (after : OfficeState) (is : IsTurnIn terms before turn after) (old new : D) : Type 0 where
  pub counts : DiskRose on turn.rise old new
  pub images : During on.moment on.since old new (LeavesInTurn terms before turn after is)
  pub at_rest : Rests on old before → Rests on new after

-- the turns of a conduct, each from the disk that the one before it left
abbrev pub TurnsOn : {D : Type 0} → DiskWords D → (terms : Terms) (before : OfficeState) (turns : List CometTurn)
    (after : OfficeState) → ConductIn terms before turns after → (old new : D) → Type 0
TurnsOn on terms before [] after conduct old new = new ≡ old
TurnsOn {D = D} on terms before (turn ∷ turns) after (between, is, later) old new =
    (then : D) × TurnOn on terms before turn between is old then × TurnsOn on terms between turns after later then new

-- ---- what is kept of a turn

-- The image stands for a legal register that goes on from the entries that the turn left. An act that was answered in
-- the turn is in it, under its number, and the answer is that entry's.
pub record Holds (terms : Terms) (turn : CometTurn) (settled : List Entry) (image : List ℕ) : Type 0 where
  pub entries : List Entry
  pub stands : Stands image entries
  pub legal : IsLegalIn terms entries
  pub goes_on : Extends settled entries
  pub answered : (text : List ℕ) → is_act turn.request.verb ≡ true → turn.reply ≡ Done text
      → IsAcknowledged terms.desk turn.request text entries

-- What the turn left is kept to the end: the disk was this one when the reply was given, and each image since that
-- moment holds it.
pub record IsKept {D : Type 0} (on : DiskWords D) (terms : Terms) (turn : CometTurn) (after : OfficeState)
    (then end : D) : Type 0 where
  pub later : on.moment then ≤ on.moment end
  pub each : (image : List ℕ) → on.since end (on.moment then) image → Holds terms turn after.settled image

-- The turns of a conduct, each from the disk that the one before it left, down to the disk at which they stopped: what
-- each left is kept to the end.
abbrev pub KeepsEach : {D : Type 0} → DiskWords D → (end : D) (terms : Terms) (before : OfficeState)
    (turns : List CometTurn) (after : OfficeState) → ConductIn terms before turns after → (old left : D) → Type 0
KeepsEach on end terms before [] after conduct old left = left ≡ old
KeepsEach {D = D} on end terms before (turn ∷ turns) after (between, is, later) old left =
    (then : D) × TurnOn on terms before turn between is old then × IsKept on terms turn between then end
    × KeepsEach on end terms between turns after later then left

-- ---- turns of a register

-- its terms beside an office with these deeds
abbrev pub terms_of : {D : Type 0} → List Deed → CometDeskState D → Terms
terms_of desk register = record { founder = register.founder; limit = register.limit; desk = desk }

-- a register acts with a reading of the clock, and answers a query without one
abbrev pub ActsOrAsks : {D : Type 0} → DiskWords D → List Deed → CometDeskState D → CometRequest → Option ℤ
    → CometReply → CometDeskState D → Type 0
ActsOrAsks on desk old request (Some reading) reply new =
    ActsInTurn on.moment on.since on.faults desk
    (record { old = old; request = request; reading = reading; reply = reply; new = new })
ActsOrAsks on desk old request None reply new =
    Answers old.founder (Some old.limit) desk old.state.settled request (pos 0) reply old.state.settled × (new ≡ old)

-- a register is the same one, and its disk is at rest if it was
pub record StaysRegister {D : Type 0} (on : DiskWords D) (old new : CometDeskState D) : Type 0 where
  pub founder : new.founder ≡ old.founder
  pub limit : new.limit ≡ old.limit
  pub at_rest : IsAtRest on.leaves old → IsAtRest on.leaves new

-- One turn of a register beside an office with these deeds: the request was answered, with the clock's next reading
-- where it took one.
pub record TurnBeside {D : Type 0} (on : DiskWords D) (desk : List Deed) (old : CometDeskState D)
    (request : CometRequest) (reply : CometReply) (new : CometDeskState D) (before after : ClockState) : Type 0 where
  pub reading : Option ℤ
  pub reads : TakesReading request.verb reading
  pub does : ActsOrAsks on desk old request reading reply new
  pub stays : StaysRegister on old new
  pub clock : Gives before after (option_to_list reading)
