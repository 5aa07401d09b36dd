-- Worlds: what may come over a register on a disk beside an office whose history grows, one event after another.
-- Replies are lost, the founding officer sends again, the register stops at any moment and is opened again.
use Rattle.std.specs.Prelude.{◌≡◌, ◌⊎◌, ℕ, ℤ, Bool, true, false, List, [], ◌∷◌, Option, IsSome}
use Rattle.std.specs.List.{AllByRecursion}
use Rattle.obs_time.specs.Instants.{IsInstantNs}
use Rattle.act_bodies.specs.declared.key.Key.{Key}
use Rattle.act_model.specs.declared.deed.Deed.{Deed}
use Rattle.act_model.specs.declared.entry.Entry.{Entry}
use Rattle.act_model.specs.declared.keeper.OfficeState.{OfficeState}
use Rattle.act_model.specs.Conducts.{Extends}
use Rattle.act_model.specs.Deeds.{deeds}
use Rattle.act_model.specs.Turns.{at_rest, Mends}
use Rattle.act_model.specs.Worlds.{ComesToRest}
use Rattle.comet_model.specs.declared.reply.CometReply.TheVariants.{Done}
use Rattle.comet_model.specs.declared.request.CometRequest.{CometRequest}
use Rattle.comet_model.specs.Requests.{is_act}
use Rattle.comet_model.specs.Step.{Adds, outcome, step}
use Rattle.comet_model.specs.Turns.{CometTurn, IsTurn}
use Rattle.comet_model.specs.Conducts.{IsAcknowledged}

-- A register in the world: the office's history; the register's state, which after a stop is what its file stands for;
-- whether it stands still, since it stopped and wasn't opened again; and the turns whose replies were received, the
-- newest first.
pub record WorldState : Type 0 where
  pub history : List Entry
  pub register : OfficeState
  pub stopped : Bool
  pub received : List CometTurn

-- a register that runs beside an office with this history, of which these replies were received
abbrev pub running_world : List Entry → OfficeState → List CometTurn → WorldState
running_world history register received =
    record { history = history; register = register; stopped = false; received = received }

-- the empty register beside an office with this history
abbrev pub new_register : List Entry → WorldState
new_register history = running_world history (at_rest []) []

-- What may happen. A request that is sent again is a turn whose request came before, whatever became of it. A stop in a
-- query or in a mending outside a turn is a stop at rest, since neither writes.
pub data Event : Type 0 where
  -- a turn whose reply was received, and one whose reply was lost
  Received : CometTurn → Event
  Lost : CometTurn → Event
  -- a mending outside a turn that settled the act in doubt, where one was, and one in which the disk failed
  Mended : Event
  Unmended : Event
  -- a stop between two calls, and one inside the act that this request asked for at this reading of the clock
  Stopped : Event
  StoppedInside : CometRequest → ℤ → Event
  -- the register is opened again
  Reopened : Event
  -- the office's history grows
  Grew : Event

-- ---- what an event leaves

-- the act became an entry of the register that its mending made, and the stop left that entry
pub record LeavesEntry (founder : Key) (limit : Option ℕ) (desk : List Deed) (before : OfficeState)
    (request : CometRequest) (reading : ℤ) (after : OfficeState) : Type 0 where
  pub mended : List Entry
  pub mends : Mends before.settled before.doubt mended
  pub entry : Entry
  pub adds : outcome founder limit desk mended request reading ≡ Adds entry
  pub leaves : after ≡ at_rest (entry ∷ mended)

-- a stop inside an act leaves what one at rest leaves, or the act's own entry
abbrev pub LeavesInside : Key → Option ℕ → List Deed → OfficeState → CometRequest → ℤ → OfficeState → Type 0
LeavesInside founder limit desk before request reading after =
    ComesToRest before after ⊎ LeavesEntry founder limit desk before request reading after

-- it ran, it goes on running beside the same office, and these replies were received
abbrev pub RunsOn : WorldState → List CometTurn → WorldState → Type 0
RunsOn before received after =
    (before.stopped ≡ false) × (after.stopped ≡ false) × (after.received ≡ received)
    × (after.history ≡ before.history)

-- it ran, and stands still
abbrev pub Stops : WorldState → WorldState → Type 0
Stops before after =
    (before.stopped ≡ false) × (after.stopped ≡ true) × (after.received ≡ before.received)
    × (after.history ≡ before.history)

-- it stood still, and runs
abbrev pub Starts : WorldState → WorldState → Type 0
Starts before after =
    (before.stopped ≡ true) × (after.stopped ≡ false) × (after.received ≡ before.received)
    × (after.history ≡ before.history)

-- it runs or stands still as before, and the office's history has newer entries
abbrev pub GrowsBeside : WorldState → WorldState → Type 0
GrowsBeside before after =
    Extends before.history after.history × (after.stopped ≡ before.stopped) × (after.received ≡ before.received)
    × (after.register ≡ before.register)

-- ---- worlds

-- This event takes the register from one state to the other. Where it stands still it can only be opened again, while
-- the office may go on.
abbrev pub Happens : Key → Option ℕ → WorldState → Event → WorldState → Type 0
Happens founder limit before (Received turn) after =
    RunsOn before (turn ∷ before.received) after
    × IsTurn founder limit (deeds before.history) before.register turn after.register
Happens founder limit before (Lost turn) after =
    RunsOn before before.received after
    × IsTurn founder limit (deeds before.history) before.register turn after.register
Happens founder limit before Mended after =
    RunsOn before before.received after × ComesToRest before.register after.register
Happens founder limit before Unmended after =
    RunsOn before before.received after × IsSome before.register.doubt × (after.register ≡ before.register)
Happens founder limit before Stopped after = Stops before after × ComesToRest before.register after.register
Happens founder limit before (StoppedInside request reading) after =
    Stops before after × (is_act request.verb ≡ true) × IsInstantNs reading
    × LeavesInside founder limit (deeds before.history) before.register request reading after.register
Happens founder limit before Reopened after = Starts before after × (after.register ≡ before.register)
Happens founder limit before Grew after = GrowsBeside before after

-- events one after another, each from the state that the last one left
abbrev pub World : Key → Option ℕ → WorldState → List Event → WorldState → Type 0
World founder limit before [] after = after ≡ before
World founder limit before (event ∷ events) after =
    (between : WorldState) × Happens founder limit before event between × World founder limit between events after

-- ---- what was acknowledged

-- If the reply is the 200 of an act, then the register as it is now acknowledges it: the number stands for the entry of
-- the same body, and the text is the answer of that entry's own time.
abbrev pub IsStillAcknowledged : List Deed → List Entry → CometTurn → Type 0
IsStillAcknowledged desk now turn = (text : List ℕ) → is_act turn.request.verb ≡ true → turn.reply ≡ Done text
    → IsAcknowledged desk turn.request text now

abbrev pub AreStillAcknowledged : List Deed → List Entry → List CometTurn → Type 0
AreStillAcknowledged desk now received = AllByRecursion (IsStillAcknowledged desk now) received

-- If the reply is the 200 of an act, then the same request is answered with the same text, at any reading of the clock
-- and whatever the journal may have now, and it leaves the register.
abbrev pub IsAnsweredAgain : Key → List Deed → List Entry → CometTurn → Type 0
IsAnsweredAgain founder desk now turn = (text : List ℕ) → is_act turn.request.verb ≡ true → turn.reply ≡ Done text
    → (limit : Option ℕ) (reading : ℤ) → step founder limit desk now turn.request reading ≡ (Done text, now)

abbrev pub AreAnsweredAgain : Key → List Deed → List Entry → List CometTurn → Type 0
AreAnsweredAgain founder desk now received = AllByRecursion (IsAnsweredAgain founder desk now) received
