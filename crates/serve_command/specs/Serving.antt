-- What a keeper of the office stands for once the links of a door were attended.
use Rattle.std.specs.Prelude.{◌≡◌, ◌≢◌, ◌⊎◌, ℕ, Bool, List, [], ◌∷◌, ◌++◌, length, map}
use Rattle.std.specs.Prelude.{Option, Some, None, IfSome, Contains}
use Rattle.std.specs.List.{AllByRecursion}
use Rattle.desk_io.specs.Doors.{Gives}
use Rattle.act_model.specs.declared.entry.Entry.{Entry}
use Rattle.act_model.specs.declared.keeper.Office.{Office}
use Rattle.act_model.specs.declared.keeper.Stamp.{Stamp}
use Rattle.act_model.specs.declared.reply.Refusal.TheVariants.{DiskFault}
use Rattle.act_model.specs.declared.reply.Reply.TheVariants.{Refused}
use Rattle.intake_lock.specs.declared.view.Item.{Item}
use Rattle.intake_lock.specs.Stamps.{Gave}
use Rattle.intake_lock.specs.Items.{AddsEntry, AreTrue, AreStamped, IsStampOf, RisesBy, rises}
use Rattle.intake_lock.specs.Rule.{StaysLegal}
use Rattle.act_model.specs.Clocks.{ClockState}
use Rattle.http_connection.specs.Calls.{HasCause, AreInOrder}
use Rattle.serve_command.specs.declared.ends.LinkEnd.{LinkEnd}
use Rattle.serve_command.specs.declared.accepting.Stop.{Stop}
use Rattle.serve_command.specs.Links.{LinkWords, Attendance, link_of, end_of, calls_of, calls_in}
use Rattle.serve_command.specs.Gathering.{DoorState, Stops, IsBetween}

-- one of these calls added the entry at this history, or left it in doubt there
abbrev pub IsAddedBy : Office → List Item → List Entry → Entry → Type 0
IsAddedBy opening calls past entry =
    (item : Item) × Contains calls item × AddsEntry opening.founder opening.limit past item entry

-- each of the entries that came to the history at the opening was added by one of these calls
abbrev pub AreAddedBy : Office → List Item → List Entry → Type 0
AreAddedBy opening calls [] = Unit {0}
AreAddedBy opening calls (entry ∷ newer) =
    IsAddedBy opening calls (newer ++ opening.state.settled) entry × AreAddedBy opening calls newer

-- each stamp that wasn't given at the opening is that of one of these calls
abbrev pub AreStampsOf : Office → Office → List Item → Type 0
AreStampsOf opening office calls = (stamp : Stamp) → Gave office.stamps stamp
    → Gave opening.stamps stamp ⊎ ((item : Item) × Contains calls item × IsStampOf item stamp)

-- The history is that at the opening with newer entries, each of which a call for one of the links added, and so is the
-- act in doubt. Each call is true of the history, and the count of faults rose by at least what the calls say. Where
-- acts are stamped, the stamps of the calls are the office's, and it has given no others since the opening.
pub record Grows (opening office : Office) (calls : List Item) : Type 0 where
  pub newer : List Entry
  pub grown : office.state.settled ≡ newer ++ opening.state.settled
  pub origins : AreAddedBy opening calls newer
  pub doubt : IfSome office.state.doubt (λ entry. IsAddedBy opening calls office.state.settled entry)
  pub true_of : AreTrue opening.founder opening.limit office.state.settled calls
  pub counts : RisesBy (rises calls) opening.faults office.faults
  pub stamped : AreStamped office.stamps calls
  pub stamps : AreStampsOf opening office calls
  pub legal : StaysLegal opening office
  pub founder : office.founder ≡ opening.founder
  pub limit : office.limit ≡ opening.limit

-- the places of a link's calls rise in this later history, from the end of the one at the opening on
abbrev pub StandInOrder : {I O : Type 0} {on : LinkWords I O} → Office → List Entry → Attendance on → Type 0
StandInOrder opening later attendance =
    AreInOrder opening.founder opening.limit later (length opening.state.settled) (calls_of attendance)

-- the call is not answered that the disk failed
abbrev pub IsNoDiskFault : Item → Type 0
IsNoDiskFault item = (doubt : Bool) → item.reply ≢ Refused (DiskFault doubt)

-- what there is before a door is served: the clock, the office, the door, and how many links may come
pub record ServiceStart (I O : Type 0) : Type 0 where
  pub clock : ClockState
  pub office : Office
  pub door : DoorState I O
  pub most : ℕ

-- what there is when a door was served: the office, the door, how the links ended, and why no further one was taken;
-- None where memory for the links was refused
pub record ServiceEnd (I O : Type 0) : Type 0 where
  pub office : Office
  pub door : DoorState I O
  pub ends : List (LinkEnd I O)
  pub stop : Option Stop

-- Why no more links were taken than these. Where memory for the links was refused there are none, and the door tells
-- what it told.
abbrev pub EndsTaking : {I O : Type 0} → ℕ → List (I × O) → DoorState I O → DoorState I O → Option Stop → Type 0
EndsTaking most came before after (Some stop) = Stops most came before after stop
EndsTaking most came before after None = (came ≡ []) × (after ≡ before)

-- The links that a door gave were attended, each once, and their ends stand in the door's order. The calls for each
-- have places in the one history to which all came, that rise; a call is answered that the disk failed only where the
-- disk's count of faults rose in it.
pub record Serves {I O : Type 0} (on : LinkWords I O) (start : ServiceStart I O) (end : ServiceEnd I O) : Type 0 where
  pub attendances : List (Attendance on)
  pub gave : Gives start.door.links end.door.links (map link_of attendances)
  pub ended : end.ends ≡ map end_of attendances
  pub each : AllByRecursion (IsBetween start.clock start.office end.office.state.settled) attendances
  pub grows : Grows start.office end.office (calls_in attendances)
  pub orders : AllByRecursion (StandInOrder start.office end.office.state.settled) attendances
  pub causes : AllByRecursion HasCause (calls_in attendances)
  pub stops : EndsTaking start.most (map link_of attendances) start.door end.door end.stop
