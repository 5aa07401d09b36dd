-- Worlds: what may come over an office on a disk, one event after another. Replies are lost, callers send again, the
-- office stops at any moment and is opened again.
use Rattle.std.specs.Prelude.{◌≡◌, ◌⊎◌, ℕ, ℤ, Bool, true, false, List, [], ◌∷◌, Option, None, IsSome}
use Rattle.std.specs.List.{AllByRecursion}
use Rattle.obs_time.specs.Instants.{IsInstantNs}
use Rattle.act_bodies.specs.declared.key.Key.{Key}
use Rattle.act_model.specs.declared.entry.Entry.{Entry}
use Rattle.act_model.specs.declared.keeper.OfficeState.{OfficeState}
use Rattle.act_model.specs.declared.reply.Reply.TheVariants.{Done}
use Rattle.act_model.specs.declared.request.Request.{Request}
use Rattle.act_model.specs.Requests.{is_act}
use Rattle.act_model.specs.Step.{Adds, outcome, step}
use Rattle.act_model.specs.Turns.{Turn, at_rest, Mends, IsTurn}
use Rattle.act_model.specs.Conducts.{IsAcknowledged}

-- An office in the world: its state, which after a stop is what its file stands for; whether it stands still, since it
-- stopped and wasn't opened again; and the turns whose replies were received, the newest first.
pub record WorldState : Type 0 where
  pub office : OfficeState
  pub stopped : Bool
  pub received : List Turn

-- an office that runs, of which these replies were received
abbrev pub running_world : OfficeState → List Turn → WorldState
running_world office received = record { office = office; stopped = false; received = received }

-- the empty office
abbrev pub new_office : WorldState
new_office = running_world (at_rest []) []

-- What may happen. A request that is sent again needs no case: it is a turn whose request came before, whatever became
-- of it. A reply that comes late needs none, since nothing else reads which replies were received. A stop in a query or
-- in a mending outside a turn is a stop at rest, since neither writes; and an opening that fails, or stops, leaves the
-- office standing still. By how much the disk's count of faults rose in a turn is said by the turn, and may be anything
-- that the turn allows.
pub data Event : Type 0 where
  -- a turn whose reply was received, and one whose reply was lost
  Received : Turn → Event
  Lost : Turn → Event
  -- a mending outside a turn that settled the act in doubt, where one was, and one in which the disk failed
  Mended : Event
  Unmended : Event
  -- a stop between two calls, and one inside the act that this request asked for at this reading of the clock
  Stopped : Event
  StoppedInside : Request → ℤ → Event
  -- the office is opened again
  Reopened : Event

-- ---- what an event leaves

-- what was in doubt is kept or it isn't, and nothing is in doubt
abbrev pub ComesToRest : OfficeState → OfficeState → Type 0
ComesToRest before after = Mends before.settled before.doubt after.settled × (after.doubt ≡ None)

-- the act became an entry at the history that its mending made, and the stop left that entry
pub record LeavesEntry (founder : Key) (limit : Option ℕ) (before : OfficeState) (request : Request) (reading : ℤ)
    (after : OfficeState) : Type 0 where
  pub mended : List Entry
  pub mends : Mends before.settled before.doubt mended
  pub entry : Entry
  pub adds : outcome founder limit mended request reading ≡ Adds entry
  pub leaves : after ≡ at_rest (entry ∷ mended)

-- a stop inside an act leaves what one at rest leaves, or the act's own entry
abbrev pub LeavesInside : Key → Option ℕ → OfficeState → Request → ℤ → OfficeState → Type 0
LeavesInside founder limit before request reading after =
    ComesToRest before after ⊎ LeavesEntry founder limit before request reading after

-- it ran, it goes on running, and these replies were received
abbrev pub RunsOn : WorldState → List Turn → WorldState → Type 0
RunsOn before received after = (before.stopped ≡ false) × (after.stopped ≡ false) × (after.received ≡ received)

-- it ran, and stands still
abbrev pub Stops : WorldState → WorldState → Type 0
Stops before after = (before.stopped ≡ false) × (after.stopped ≡ true) × (after.received ≡ before.received)

-- it stood still, and runs
abbrev pub Starts : WorldState → WorldState → Type 0
Starts before after = (before.stopped ≡ true) × (after.stopped ≡ false) × (after.received ≡ before.received)

-- ---- worlds

-- This event takes the office from one state to the other. Where it stands still it can only be opened again.
abbrev pub Happens : Key → Option ℕ → WorldState → Event → WorldState → Type 0
Happens founder limit before (Received turn) after =
    RunsOn before (turn ∷ before.received) after × IsTurn founder limit before.office turn after.office
Happens founder limit before (Lost turn) after =
    RunsOn before before.received after × IsTurn founder limit before.office turn after.office
Happens founder limit before Mended after =
    RunsOn before before.received after × ComesToRest before.office after.office
Happens founder limit before Unmended after =
    RunsOn before before.received after × IsSome before.office.doubt × (after.office ≡ before.office)
Happens founder limit before Stopped after = Stops before after × ComesToRest before.office after.office
Happens founder limit before (StoppedInside request reading) after =
    Stops before after × (is_act request.verb ≡ true) × IsInstantNs reading
    × LeavesInside founder limit before.office request reading after.office
Happens founder limit before Reopened after = Starts before after × (after.office ≡ before.office)

-- events one after another, each from the state that the last one left
abbrev pub World : Key → Option ℕ → WorldState → List Event → WorldState → Type 0
World founder limit before [] after = after ≡ before
World founder limit before (event ∷ events) after =
    (between : WorldState) × Happens founder limit before event between × World founder limit between events after

-- ---- what was acknowledged

-- If the reply is the 200 of an act, then the history as it is now acknowledges it: the key still stands for a caller,
-- whose number stands for the entry of the same verb and body, and the text is the answer of that entry's own time.
abbrev pub IsStillAcknowledged : Key → List Entry → Turn → Type 0
IsStillAcknowledged founder now turn = (text : List ℕ) → is_act turn.request.verb ≡ true → turn.reply ≡ Done text
    → IsAcknowledged founder now turn.request text now

abbrev pub AreStillAcknowledged : Key → List Entry → List Turn → Type 0
AreStillAcknowledged founder now received = AllByRecursion (IsStillAcknowledged founder now) received

-- If the reply is the 200 of an act, then the same request is answered with the same text, at any reading of the clock
-- and whatever the journal may have now, and it leaves the history.
abbrev pub IsAnsweredAgain : Key → List Entry → Turn → Type 0
IsAnsweredAgain founder now turn = (text : List ℕ) → is_act turn.request.verb ≡ true → turn.reply ≡ Done text
    → (limit : Option ℕ) (reading : ℤ) → step founder limit now turn.request reading ≡ (Done text, now)

abbrev pub AreAnsweredAgain : Key → List Entry → List Turn → Type 0
AreAnsweredAgain founder now received = AllByRecursion (IsAnsweredAgain founder now) received
