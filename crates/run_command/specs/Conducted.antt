-- Conducts of the office on a disk: how their histories follow one another, and what a crash inside them may leave.
use Rattle.std.specs.Prelude.{◌≡◌, ◌⊎◌, true, ℕ, ◌≤◌, ℤ, pos, List, [], ◌∷◌, Option, Some, None, option_to_list}
use Rattle.std.proofs.Common.{inl, inr}
use Rattle.disk_model.specs.Crashes.{During}
use Rattle.act_bodies.specs.declared.key.Key.{Key}
use Rattle.act_model.specs.declared.entry.Entry.{Entry}
use Rattle.act_model.specs.declared.keeper.OfficeState.{OfficeState}
use Rattle.act_model.specs.declared.reply.Reply.{Reply}
use Rattle.act_model.specs.declared.reply.Reply.TheVariants.{Done}
use Rattle.act_model.specs.declared.request.Request.{Request}
use Rattle.act_model.specs.Conducts.{Extends, IsAcknowledged}
use Rattle.act_model.specs.Legal.{IsLegal}
use Rattle.act_model.specs.Requests.{is_act}
use Rattle.act_model.specs.Step.{Adds, outcome}
use Rattle.act_model.specs.Turns.{Turn, TakesReading, Answers, Mends, Takes, IsTurn, Conduct}
use Rattle.mpc_desk.specs.Desks.{DeskState, RestsAt, IsAtRest, ActsInTurn}
use Rattle.mpc_desk.specs.Files.{Stands}
use Rattle.mpc_desk.specs.Pairs.{FilePair, StandBoth}
use Rattle.command_ends.specs.Disks.{DiskWords, DiskRose}
use Rattle.act_model.specs.Clocks.{ClockState, Gives}

-- ---- what a crash may leave

-- an image inside a turn: its act becomes an entry, and the image stands for the history that mending left, with the
-- entry
abbrev pub InsideTurn : (founder : Key) (limit : Option ℕ) (before : OfficeState) (turn : Turn) (reading : Option ℤ)
    (after : OfficeState) → Takes founder limit before turn reading after → List ℕ → Type 0
InsideTurn founder limit before turn None after asks image = ⊥
InsideTurn founder limit before turn (Some reading) after (inl fails) image = ⊥
InsideTurn founder limit before turn (Some reading) after (inr acts) image =
    (entry : Entry) × (outcome founder limit acts.mended turn.request reading ≡ Adds entry)
    × Stands image (entry ∷ acts.mended)

-- an image at some moment of a turn: it is one of an office at rest, before or after it, or one inside it
abbrev pub LeavesInTurn : (founder : Key) (limit : Option ℕ) (before : OfficeState) (turn : Turn) (after : OfficeState)
    → IsTurn founder limit before turn after → List ℕ → Type 0
LeavesInTurn founder limit before turn after is image =
    RestsAt before image
    ⊎ (InsideTurn founder limit before turn turn.reading after is.takes image ⊎ RestsAt after image)

-- an image at some moment of a conduct: it is one of an office at rest, before or after one of the turns, or one inside
-- a turn
abbrev pub LeavesIn : (founder : Key) (limit : Option ℕ) (before : OfficeState) (turns : List Turn)
    (after : OfficeState) → Conduct founder limit before turns after → List ℕ → Type 0
LeavesIn founder limit before [] after conduct image = RestsAt before image
LeavesIn founder limit before (turn ∷ turns) after (between, is, later) image =
    RestsAt before image
    ⊎ (InsideTurn founder limit before turn turn.reading between is.takes image
    ⊎ LeavesIn founder limit between turns after later image)

-- two files at some moment of a run, its opening included: they stand for the history at which it began, or the second
-- one is an image at some moment of the conduct
abbrev pub LeavesBoth : (founder : Key) (limit : Option ℕ) (before : OfficeState) (turns : List Turn)
    (after : OfficeState) → Conduct founder limit before turns after → FilePair → Type 0
LeavesBoth founder limit before turns after conduct files =
    StandBoth files before.settled ⊎ LeavesIn founder limit before turns after conduct files.second

-- ---- how histories follow one another

-- this history is an end of each settled history of the conduct
abbrev pub IsEndOfEach : List Entry → (founder : Key) (limit : Option ℕ) (before : OfficeState) (turns : List Turn)
    (after : OfficeState) → Conduct founder limit before turns after → Type 0
IsEndOfEach history founder limit before [] after conduct = Extends history before.settled
IsEndOfEach history founder limit before (turn ∷ turns) after (between, is, later) =
    Extends history before.settled × IsEndOfEach history founder limit between turns after later

-- each settled history of a conduct is an end of every later one
abbrev pub Grows : (founder : Key) (limit : Option ℕ) (before : OfficeState) (turns : List Turn) (after : OfficeState)
    → Conduct founder limit before turns after → Type 0
Grows founder limit before [] after conduct = Unit {0}
Grows founder limit before (turn ∷ turns) after (between, is, later) =
    IsEndOfEach before.settled founder limit between turns after later × Grows founder limit between turns after later

-- ---- turns on a disk

-- each image of the disk is one of an office at rest that stands so
abbrev pub Rests : {D : Type 0} → DiskWords D → D → OfficeState → Type 0
Rests on disk state = (image : List ℕ) → on.leaves disk image → RestsAt state image

-- A turn, from the disk as it was before to the disk as it was when the reply was given: by how much the count of
-- faults rose, and what a crash at some moment of the turn may leave. The disk is at rest after it if it was before.
pub record TurnOn {D : Type 0} (on : DiskWords D) (founder : Key) (limit : Option ℕ) (before : OfficeState)
    (turn : Turn) (after : OfficeState) (is : IsTurn founder limit before turn after) (old new : D) : Type 0 where
  pub counts : DiskRose on turn.rise old new
  pub images : During on.moment on.since old new (LeavesInTurn founder limit before turn after is)
  pub at_rest : Rests on old before → Rests on new after

-- the turns of a conduct, each from the disk that the one before it left
abbrev pub TurnsOn : {D : Type 0} → DiskWords D → (founder : Key) (limit : Option ℕ) (before : OfficeState)
    (turns : List Turn) (after : OfficeState) → Conduct founder limit before turns after → (old new : D) → Type 0
TurnsOn on founder limit before [] after conduct old new = new ≡ old
TurnsOn {D = D} on founder limit before (turn ∷ turns) after (between, is, later) old new =
    (then : D) × TurnOn on founder limit before turn between is old then
    × TurnsOn on founder limit between turns after later then new

-- ---- what is kept of a turn

-- The image stands for a legal history that goes on from the one that the turn left. An act that was answered in the
-- turn, at the history that mending left, is in it, under its caller's number, and the answer is that entry's.
pub record Holds (founder : Key) (mended : List Entry) (turn : Turn) (settled : List Entry) (image : List ℕ)
    : Type 0 where
  pub history : List Entry
  pub stands : Stands image history
  pub legal : IsLegal founder history
  pub goes_on : Extends settled history
  pub answered : (text : List ℕ) → is_act turn.request.verb ≡ true → turn.reply ≡ Done text
      → IsAcknowledged founder mended turn.request text history

-- What the turn left is kept to the end: the disk was this one when the reply was given, and each image since that
-- moment holds it.
pub record IsKept {D : Type 0} (on : DiskWords D) (founder : Key) (before : OfficeState) (turn : Turn)
    (after : OfficeState) (then end : D) : Type 0 where
  pub later : on.moment then ≤ on.moment end
  pub mended : List Entry
  pub mends : Mends before.settled before.doubt mended
  pub each : (image : List ℕ) → on.since end (on.moment then) image → Holds founder mended turn after.settled image

-- The turns of a conduct, each from the disk that the one before it left, down to the disk at which they stopped: what
-- each left is kept to the end.
abbrev pub KeepsEach : {D : Type 0} → DiskWords D → (end : D) (founder : Key) (limit : Option ℕ) (before : OfficeState)
    (turns : List Turn) (after : OfficeState) → Conduct founder limit before turns after → (old left : D) → Type 0
KeepsEach on end founder limit before [] after conduct old left = left ≡ old
KeepsEach {D = D} on end founder limit before (turn ∷ turns) after (between, is, later) old left =
    (then : D) × TurnOn on founder limit before turn between is old then
    × IsKept on founder before turn between then end
    × KeepsEach on end founder limit between turns after later then left

-- ---- turns of a desk

-- a desk acts with a reading of the clock, and answers a query without one
abbrev pub ActsOrAsks : {D : Type 0} → DiskWords D → DeskState D → Request → Option ℤ → Reply → DeskState D → Type 0
ActsOrAsks on old request (Some reading) reply new =
    ActsInTurn on.moment on.since on.faults
    (record { old = old; request = request; reading = reading; reply = reply; new = new })
ActsOrAsks on old request None reply new =
    Answers old.founder (Some old.limit) old.state.settled request (pos 0) reply old.state.settled × (new ≡ old)

-- a desk is the same one, and its disk is at rest if it was
pub record StaysDesk {D : Type 0} (on : DiskWords D) (old new : DeskState D) : Type 0 where
  pub founder : new.founder ≡ old.founder
  pub limit : new.limit ≡ old.limit
  pub at_rest : IsAtRest on.leaves old → IsAtRest on.leaves new

-- one turn of a desk: the request was answered, with the clock's next reading where it took one
pub record TakesTurn {D : Type 0} (on : DiskWords D) (old : DeskState D) (request : Request) (reply : Reply)
    (new : DeskState D) (before after : ClockState) : Type 0 where
  pub reading : Option ℤ
  pub reads : TakesReading request.verb reading
  pub does : ActsOrAsks on old request reading reply new
  pub stays : StaysDesk on old new
  pub clock : Gives before after (option_to_list reading)
