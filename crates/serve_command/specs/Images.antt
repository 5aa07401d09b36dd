-- What a crash at any moment of a service leaves.
use Rattle.std.specs.Prelude.{◌≡◌, ◌⊎◌, ℕ, ◌≤◌, ℤ, pos, List, [], ◌∷◌, length, map}
use Rattle.std.specs.Prelude.{Option, Some, None, IfSome, Contains}
use Rattle.disk_model.specs.Crashes.{During}
use Rattle.act_bodies.specs.declared.key.Key.{Key}
use Rattle.act_model.specs.declared.entry.Entry.{Entry}
use Rattle.act_model.specs.declared.reply.Reply.TheVariants.{Done}
use Rattle.read_ahead.specs.declared.body.Body.TheVariants.{NoRoom}
use Rattle.act_model.specs.declared.request.Request.{Request}
use Rattle.act_model.specs.declared.request.Verb.TheVariants.{Unknown}
use Rattle.act_model.specs.Conducts.{Extends, EitherWay, IsAcknowledged}
use Rattle.act_model.specs.Legal.{IsLegal}
use Rattle.act_model.specs.Step.{Adds, outcome, step}
use Rattle.act_model.specs.declared.keeper.Office.{Office}
use Rattle.act_model.specs.declared.keeper.Stamp.{Stamp}
use Rattle.intake_lock.specs.declared.view.Item.{Item}
use Rattle.intake_lock.specs.Items.{reading_of}
use Rattle.http_connection.specs.Calls.{IsAdded}
use Rattle.mpc_desk.specs.Desks.{DeskState, office_of}
use Rattle.mpc_desk.specs.Files.{Stands}
use Rattle.mpc_desk.specs.Opening.{StandAlike}
use Rattle.mpc_desk.specs.Pairs.{FilePair, DiskPair}
use Rattle.mpc_desk.specs.Disks.{DiskWords}
use Rattle.http_server.specs.declared.log.Log.{Log}

-- ---- entries of acts that were asked

-- which acts were asked at which histories, with which readings of the clock
abbrev pub Asks : Type 1
Asks = List Entry → Request → ℤ → Type 0

-- the entry is what the step adds at this history for an act that was asked there, with that act's reading of the clock
pub record IsOfAsked (founder : Key) (limit : Option ℕ) (asked : Asks) (past : List Entry)
    (entry : Entry) : Type 0 where
  pub request : Request
  pub reading : ℤ
  pub was_asked : asked past request reading
  pub adds : outcome founder limit past request reading ≡ Adds entry

-- one of these calls, whose place is the end of this history, asked this act, with this reading of the clock
abbrev pub AskedBy : List Item → List Entry → Request → ℤ → Type 0
AskedBy calls past request reading =
    (item : Item) × Contains calls item × (item.request ≡ request) × (item.reading ≡ Some reading)
    × (item.position ≡ length past)

-- The image stands for a legal history, to which the office came between these two; or for one that has one entry more
-- than such a history: that which the step adds there for an act that was asked there.
pub record StandsWithin (founder : Key) (limit : Option ℕ) (asked : Asks) (first last : List Entry)
    (image : List ℕ) : Type 0 where
  pub past : List Entry
  pub begins : Extends first past
  pub ends : Extends past last
  pub history : List Entry
  pub within : (history ≡ past)
      ⊎ ((entry : Entry) × IsOfAsked founder limit asked past entry × (history ≡ entry ∷ past))
  pub legal : IsLegal founder history
  pub stands : Stands image history

-- A desk since it had this history, at this moment of its disk and with these images: its history has grown and is
-- legal, the act in doubt was asked, and each image since a moment before is one of those, or stands for a history to
-- which the office came, or for one entry more.
pub record IsWatched {D : Type 0} (moment : D → ℕ) (since : D → ℕ → List ℕ → Type 0) (first : List Entry) (from : ℕ)
    (images : ℕ → List ℕ → Type 0) (asked : Asks) (desk : DeskState D) : Type 0 where
  pub later : from ≤ moment desk.disk
  pub grows : Extends first desk.state.settled
  pub legal : EitherWay (IsLegal desk.founder) desk.state
  pub doubt : IfSome desk.state.doubt (IsOfAsked desk.founder (Some desk.limit) asked desk.state.settled)
  pub each : (t : ℕ) (image : List ℕ) → t ≤ from → since desk.disk t image
      → images t image ⊎ StandsWithin desk.founder (Some desk.limit) asked first desk.state.settled image

-- ---- acts that were answered

-- what a desk was asked in an act: a log of one request, with the clock's reading
abbrev pub Asked : Type 0
Asked = Log Request ℤ

-- the request of such a log; one that asks nothing where it is empty
abbrev pub request_in : List (Request × ℤ) → Request
request_in [] = record { key = record { len = 0; bytes = [] }; number = None; verb = Unknown; body = NoRoom }
request_in (asked ∷ more) = asked.0

-- the clock's reading of such a log
abbrev pub reading_in : List (Request × ℤ) → ℤ
reading_in [] = pos 0
reading_in (asked ∷ more) = asked.1

-- the stamp of an act that was asked so, of the desk as it stands then
abbrev pub stamp_of : {D : Type 0} (moment : D → ℕ) → DeskState D → Asked → Stamp
stamp_of moment desk asked = record {
  moment = moment desk.disk;
  entries = length desk.state.settled;
  request = request_in asked.items;
  reading = reading_in asked.items;
}

-- desks as they were when they had answered acts, each with what it was asked, the oldest first
abbrev pub Answered : Type 0 → Type 0
Answered D = List (DeskState D × Asked)

-- one of the acts that were answered was this one, with this reading of the clock, and it left this history
abbrev pub WasAsked : {D : Type 0} → Answered D → List Entry → Request → ℤ → Type 0
WasAsked {D = D} answered left request reading =
    (then : DeskState D × Asked) × Contains answered then × (request_in then.1.items ≡ request)
    × (reading_in then.1.items ≡ reading) × (then.0.state.settled ≡ left)

-- a desk, and how it was when it had answered each of its acts
pub record WatchedState (D : Type 0) : Type 0 where
  pub desk : DeskState D
  pub answered : Answered D

-- the office of a desk that stamps its acts
abbrev pub stamping_office : {D : Type 0} (moment : D → ℕ) (faults : D → ℕ) → DeskState D → Answered D → Office
stamping_office moment faults desk answered =
    record (office_of faults desk) {
      stamps = Some (record {
        moment = moment desk.disk;
        given = map (λ then. stamp_of moment then.0 then.1) answered;
      });
    }

-- What was settled in a desk then is in each image of its disk since: its history has gone on from there, and each
-- image since that moment stands for a history to which the office came from there on, or for one entry more.
pub record Keeps {D : Type 0} (moment : D → ℕ) (since : D → ℕ → List ℕ → Type 0) (founder : Key) (limit : Option ℕ)
    (asked : Asks) (then now : DeskState D) : Type 0 where
  pub later : moment then.disk ≤ moment now.disk
  pub grows : Extends then.state.settled now.state.settled
  pub each : (image : List ℕ) → since now.disk (moment then.disk) image
      → StandsWithin founder limit asked then.state.settled now.state.settled image

-- a desk that is watched from a moment on was so later, and has kept what it had then
pub record HasPassed {D : Type 0} (moment : D → ℕ) (since : D → ℕ → List ℕ → Type 0) (first : List Entry) (from : ℕ)
    (images : ℕ → List ℕ → Type 0) (asked : Asks) (now then : DeskState D) : Type 0 where
  pub founder : then.founder ≡ now.founder
  pub limit : then.limit ≡ now.limit
  pub watched : IsWatched moment since first from images asked then
  pub keeps : Keeps moment since now.founder (Some now.limit) asked then now

-- The desk was so at some moment between: each image up to then stands for no more than the history that it had then,
-- or for one entry more, and all that it had then is in each image since.
pub record WasBetween {D : Type 0} (moment : D → ℕ) (since : D → ℕ → List ℕ → Type 0) (asked : Asks)
    (opened now then : DeskState D) : Type 0 where
  pub before : During moment since opened.disk then.disk
      (StandsWithin opened.founder (Some opened.limit) asked opened.state.settled then.state.settled)
  pub keeps : Keeps moment since opened.founder (Some opened.limit) asked then now

-- The call, an act, was answered with this text, and its stamp is that of the desk as it was then. The step gave this
-- reply at the call's place, and left the history that the desk then had: the act's entry is in that, the newest where
-- the call added it, an earlier one where it had been sent before. So it is in each image of the disk from that moment
-- on.
pub record IsKept {D : Type 0} (moment : D → ℕ) (since : D → ℕ → List ℕ → Type 0) (asked : Asks)
    (opened now : DeskState D) (item : Item) (text : List ℕ) : Type 0 where
  pub then : DeskState D
  pub noted : Asked
  pub stamp : item.stamp ≡ Some (stamp_of moment then noted)
  pub past : List Entry
  pub place : item.position ≡ length past
  pub stepped : step opened.founder (Some opened.limit) past item.request (reading_of item)
      ≡ (Done text, then.state.settled)
  pub acknowledged : IsAcknowledged opened.founder past item.request text then.state.settled
  pub added : (added : IsAdded opened.founder (Some opened.limit) now.state.settled item)
      → then.state.settled ≡ added.entry ∷ added.past
  pub between : WasBetween moment since asked opened now then

-- where the call is an act that was done, its entry is kept
abbrev pub KeepsDone : {D : Type 0} (moment : D → ℕ) (since : D → ℕ → List ℕ → Type 0) (asked : Asks)
    → DeskState D → DeskState D → Item → Type 0
KeepsDone moment since asked opened now item =
    IfSome item.reading (λ reading. (text : List ℕ) → item.reply ≡ Done text
    → IsKept moment since asked opened now item text)

-- ---- the whole service

-- two files at some moment of a service, its opening included: the files stood for the same history as they were read,
-- or the second one stands for where the office came
abbrev pub LeavesInService : {D : Type 0} → DiskWords D → DiskPair D → Key → Option ℕ → Asks → List Entry → List Entry
    → FilePair → Type 0
LeavesInService on disks founder limit asked first last files =
    StandAlike on disks first files ⊎ StandsWithin founder limit asked first last files.second
