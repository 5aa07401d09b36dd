-- Calls through the lock, one after another: what a pass has of each, and where they stand in the one history.
use Rattle.std.specs.Prelude.{◌≡◌, ℕ, ◌≤◌, ◌<◌, ℤ, Bool, List, [], ◌∷◌, length, Option, option_to_list}
use Rattle.std.specs.List.{AllByRecursion}
use Rattle.act_bodies.specs.declared.key.Key.{Key}
use Rattle.act_model.specs.declared.entry.Entry.{Entry}
use Rattle.act_model.specs.declared.keeper.Office.{Office}
use Rattle.act_model.specs.declared.reply.Reply.{Reply}
use Rattle.act_model.specs.declared.reply.Reply.TheVariants.{Done, Refused}
use Rattle.act_model.specs.declared.reply.Refusal.TheVariants.{DiskFault}
use Rattle.act_model.specs.declared.request.Request.{Request}
use Rattle.act_model.specs.Conducts.{Extends}
use Rattle.act_model.specs.Turns.{Answers}
use Rattle.intake_lock.specs.declared.view.Item.{Item}
use Rattle.intake_lock.specs.declared.view.View.{View}
use Rattle.intake_lock.specs.Stamps.{StampsOn}
use Rattle.intake_lock.specs.Items.{reading_of, AddsAt, IsTrue, Calls, Noted}
use Rattle.intake_lock.specs.Views.{history_seen}
use Rattle.act_model.specs.Clocks.{ClockState, Gives}

-- ---- one call

-- where a turn stands: the office, the calls that were noted in the turn, and the clock
pub record InTurn : Type 0 where
  pub office : Office
  pub items : List Item
  pub clock : ClockState

-- the keeper of a turn was asked this, with a reading of the clock for an act
pub record Asks (before after : InTurn) (request : Request) (reply : Reply) : Type 0 where
  pub reading : Option ℤ
  pub noted : Noted before.office request reading reply after.office before.items after.items
  pub clock : Gives before.clock after.clock (option_to_list reading)

-- a reply that the disk failed comes only where the disk's count of faults rose in the call
abbrev pub HasCause : Item → Type 0
HasCause item = (doubt : Bool) → item.reply ≡ Refused (DiskFault doubt) → 0 < item.rise

-- The pass made this one call, at an office that had come no less far than the pass had seen; it has then seen what the
-- call left. The call is true of that, stands at a place that isn't before what the pass had seen, took the clock's
-- next reading where it is an act, and is answered that the disk failed only where its count of faults rose in it.
-- Where acts are stamped, the stamp of an act is the newest of those that the pass has seen before the reply is given.
pub record TakesCall (before after : View) (was now : ClockState) (item : Item) : Type 0 where
  pub mine : after.mine ≡ item ∷ before.mine
  pub entered : Office
  pub goes_on : Extends (history_seen before) entered.state.settled
  pub call : Calls entered item after.office
  pub true_of : IsTrue before.office.founder before.office.limit (history_seen after) item
  pub cause : HasCause item
  pub place : length (history_seen before) ≤ item.position
  pub grows : Extends (history_seen before) (history_seen after)
  pub stamps : StampsOn before.office.stamps after.office.stamps
  pub clock : Gives was now (option_to_list item.reading)
  pub founder : after.office.founder ≡ before.office.founder
  pub limit : after.office.limit ≡ before.office.limit

-- ---- calls in their order

-- the call was done, and at its place in this history the step adds an entry for it
pub record IsAdded (founder : Key) (limit : Option ℕ) (history : List Entry) (item : Item) : Type 0 where
  pub past : List Entry
  pub place : item.position ≡ length past
  pub first : Extends past history
  pub entry : Entry
  pub adds : AddsAt founder limit past item entry
  pub text : List ℕ
  pub done : item.reply ≡ Done text

-- a call stands no earlier in the history than an earlier one, and after the entry that the earlier one added
abbrev pub StandsBehind : Key → Option ℕ → List Entry → Item → Item → Type 0
StandsBehind founder limit history item earlier =
    (earlier.position ≤ item.position) × (IsAdded founder limit history earlier → earlier.position < item.position)

-- the places of these calls, the newest first, rise from this one on
abbrev pub AreInOrder : Key → Option ℕ → List Entry → ℕ → List Item → Type 0
AreInOrder founder limit history from [] = Unit {0}
AreInOrder founder limit history from (item ∷ earlier) =
    (from ≤ item.position) × AllByRecursion (StandsBehind founder limit history item) earlier
    × AreInOrder founder limit history from earlier

-- the count of the disk's faults rose in none of the calls
abbrev pub HadNoRise : List Item → Type 0
HadNoRise items = AllByRecursion (λ item. item.rise ≡ 0) items

-- the reply is the step's at the call's place in this history, or memory was refused
pub record IsStepped (founder : Key) (limit : Option ℕ) (history : List Entry) (item : Item) : Type 0 where
  pub past : List Entry
  pub place : item.position ≡ length past
  pub first : Extends past history
  pub after : List Entry
  pub answers : Answers founder limit past item.request (reading_of item) item.reply after
  pub rest : Extends after history
