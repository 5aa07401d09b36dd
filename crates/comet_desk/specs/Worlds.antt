-- The calls of one register on a disk, one after another, with stops between them and inside them, beside an office
-- whose history grows. What is said of each is the event that its contract names.
use Rattle.std.specs.Prelude.{◌≡◌, true, false, Bool, ℕ, List, [], ◌∷◌, map, Some, if◌then◌else◌, Result}
use Rattle.std.specs.List.{AllByRecursion}
use Rattle.disk_model.specs.declared.disk.Failed.{Failed}
use Rattle.obs_journal.specs.declared.fault.OpenFault.{OpenFault}
use Rattle.obs_journal.specs.declared.journal.Settled.{Settled}
use Rattle.act_bodies.specs.declared.key.Key.{Key}
use Rattle.act_model.specs.declared.deed.Deed.{Deed}
use Rattle.act_model.specs.declared.entry.Entry.{Entry}
use Rattle.act_model.specs.Conducts.{Extends}
use Rattle.act_model.specs.Deeds.{deeds}
use Rattle.act_model.specs.Turns.{at_rest}
use Rattle.mpc_desk.specs.Disks.{DiskWords}
use Rattle.comet_model.specs.declared.reply.CometReply.{CometReply}
use Rattle.comet_model.specs.declared.reply.CometReply.TheVariants.{Done}
use Rattle.comet_model.specs.declared.request.CometRequest.{CometRequest}
use Rattle.comet_model.specs.Conducts.{IsAcknowledged}
use Rattle.comet_model.specs.Requests.{is_act}
use Rattle.comet_model.specs.Turns.{CometTurn}
use Rattle.comet_model.specs.Worlds.{WorldState}
use Rattle.comet_desk.specs.Files.{HoldsEntries}
use Rattle.comet_desk.specs.Desks.{CometDeskState, CometAct, IsAtRest}
use Rattle.comet_desk.specs.Events.{IsAct, IsQuery, IsMending}
use Rattle.comet_desk.specs.Opening.{IsOpened, EndsOpening, disk_after}

-- where the register is: open on its disk, or after a stop in the file that the stop left
pub data Place (D : Type 0) : Type 0 where
  OnDisk : CometDeskState D → Place D
  InFile : List ℕ → Place D

-- a register beside an office with this history: where it is, and the replies that were received, each with its
-- request, the newest first
pub record Kept (D : Type 0) : Type 0 where
  pub history : List Entry
  pub place : Place D
  pub received : List (CometRequest × CometReply)

-- What is called, and what comes between. A query calls no device, and a mending writes nothing, so that a stop inside
-- one is a stop before it.
pub data Call (D : Type 0) : Type 0 where
  -- an act, and a query of this register; and whether the reply was received
  Acted : CometAct D → Bool → Call D
  Asked : CometDeskState D → CometRequest → CometReply → Bool → Call D
  -- a mending that takes the one register to the other
  Mended : CometDeskState D → Result Settled Failed → CometDeskState D → Call D
  -- a stop at this register, or its closing, and a stop inside the act that would have gone on so; with the file that
  -- is left
  Stopped : CometDeskState D → List ℕ → Call D
  StoppedInside : CometAct D → List ℕ → Call D
  -- an opening of this disk, with this file, as this register
  Opened : List ℕ → D → CometDeskState D → Call D
  -- an opening of this disk, with this file, that failed, or stopped where it would have ended so; with the file that
  -- is there after it
  Unopened : List ℕ → D → Result (CometDeskState D) (OpenFault × D) → List ℕ → Call D
  -- the office's history grows to this one
  Grew : List Entry → Call D

-- with the reply, where it was received
abbrev pub with_reply : Bool → CometRequest → CometReply → List (CometRequest × CometReply)
    → List (CometRequest × CometReply)
with_reply received request reply others = if received then (request, reply) ∷ others else others

-- the disk reads this file, and a crash may leave no other: it came back after a stop
abbrev pub IsBack : {D : Type 0} → DiskWords D → D → List ℕ → Type 0
IsBack on disk file = (on.reads disk ≡ Some file) × ((other : List ℕ) → on.leaves disk other → other ≡ file)

-- from the one place to the other, with these replies received, beside the same office
abbrev pub Goes : {D : Type 0} → Kept D → Place D → Place D → List (CometRequest × CometReply) → Kept D → Type 0
Goes before from to received after =
    (before.place ≡ from) × (after.place ≡ to) × (after.received ≡ received) × (after.history ≡ before.history)

-- This call takes the register from one state to the other. The file that a stop leaves is such as a crash may leave of
-- the disk: now, or at some moment since the act or the opening began. What is opened is a disk that reads it.
abbrev pub IsCalled : {D : Type 0} → DiskWords D → Key → ℕ → Kept D → Call D → Kept D → Type 0
IsCalled on founder limit before (Acted act received) after =
    Goes before (OnDisk act.old) (OnDisk act.new) (with_reply received act.request act.reply before.received) after
    × IsAct on (deeds before.history) act
IsCalled on founder limit before (Asked register request reply received) after =
    Goes before (OnDisk register) (OnDisk register) (with_reply received request reply before.received) after
    × IsQuery on (deeds before.history) register request reply
IsCalled on founder limit before (Mended old result new) after =
    Goes before (OnDisk old) (OnDisk new) before.received after × IsMending on old result new
IsCalled on founder limit before (Stopped register file) after =
    Goes before (OnDisk register) (InFile file) before.received after × on.leaves register.disk file
IsCalled on founder limit before (StoppedInside act file) after =
    Goes before (OnDisk act.old) (InFile file) before.received after × IsAct on (deeds before.history) act
    × on.since act.new.disk (on.moment act.old.disk) file
IsCalled on founder limit before (Opened file disk register) after =
    Goes before (InFile file) (OnDisk register) before.received after × (on.reads disk ≡ Some file)
    × IsOpened on founder limit (deeds before.history) disk register
IsCalled on founder limit before (Unopened file disk result left) after =
    Goes before (InFile file) (InFile left) before.received after × IsBack on disk file
    × EndsOpening on founder limit (deeds before.history) disk result
    × on.since (disk_after result) (on.moment disk) left
IsCalled on founder limit before (Grew history) after =
    (after.place ≡ before.place) × (after.received ≡ before.received) × (after.history ≡ history)
    × Extends before.history history

-- calls one after another, each from the state that the last one left
abbrev pub Calls : {D : Type 0} → DiskWords D → Key → ℕ → Kept D → List (Call D) → Kept D → Type 0
Calls on founder limit before [] after = after ≡ before
Calls {D} on founder limit before (call ∷ calls) after =
    (between : Kept D) × IsCalled on founder limit before call between × Calls on founder limit between calls after

-- ---- the world that the register is in

-- a register of this founder and this limit is that of the world, which runs; a file holds its entries, and it stands
-- still with nothing in doubt
abbrev pub IsPlacedIn : {D : Type 0} → DiskWords D → Key → ℕ → Place D → WorldState → Type 0
IsPlacedIn on founder limit (OnDisk register) world =
    (world.stopped ≡ false) × (world.register ≡ register.state) × (register.founder ≡ founder)
    × (register.limit ≡ limit) × IsAtRest on.leaves register
IsPlacedIn on founder limit (InFile file) world =
    (world.stopped ≡ true) × (world.register ≡ at_rest world.register.settled)
    × HoldsEntries file world.register.settled

-- a reply with its request
abbrev pub reply_in : CometTurn → CometRequest × CometReply
reply_in turn = (turn.request, turn.reply)

-- the register is in this state of the world, beside the same office, and the replies that were received are those that
-- the world has
pub record IsIn {D : Type 0} (on : DiskWords D) (founder : Key) (limit : ℕ) (register : Kept D) (world : WorldState)
    : Type 0 where
  pub place : IsPlacedIn on founder limit register.place world
  pub received : register.received ≡ map reply_in world.received
  pub history : world.history ≡ register.history

-- ---- what was answered

-- the entries that are kept there: those that are settled, or those that the file holds
abbrev pub AreKeptAt : {D : Type 0} → Place D → List Entry → Type 0
AreKeptAt (OnDisk register) entries = entries ≡ register.state.settled
AreKeptAt (InFile file) entries = HoldsEntries file entries

-- each 200 of an act among the replies is acknowledged by the entries as they are now
abbrev pub AreAcknowledged : List Deed → List Entry → List (CometRequest × CometReply) → Type 0
AreAcknowledged desk now received = AllByRecursion (λ (answer : CometRequest × CometReply). (text : List ℕ)
    → is_act answer.0.verb ≡ true → answer.1 ≡ Done text → IsAcknowledged desk answer.0 text now) received
