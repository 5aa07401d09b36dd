-- The calls of one office on its disks, one after another, with stops between them and inside them. What is said of
-- each is the event that its contract names.
use Rattle.std.specs.Prelude.{◌≡◌, true, false, Bool, ℕ, List, [], ◌∷◌, map, Some, if◌then◌else◌}
use Rattle.std.specs.Prelude.{Result}
use Rattle.std.specs.List.{AllByRecursion}
use Rattle.disk_model.specs.declared.disk.Failed.{Failed}
use Rattle.obs_journal.specs.declared.fault.OpenFault.{OpenFault}
use Rattle.obs_journal.specs.declared.journal.Settled.{Settled}
use Rattle.act_bodies.specs.declared.key.Key.{Key}
use Rattle.act_model.specs.declared.entry.Entry.{Entry}
use Rattle.act_model.specs.declared.reply.Reply.{Reply}
use Rattle.act_model.specs.declared.reply.Reply.TheVariants.{Done}
use Rattle.act_model.specs.declared.request.Request.{Request}
use Rattle.act_model.specs.Conducts.{IsAcknowledged}
use Rattle.act_model.specs.Requests.{is_act}
use Rattle.act_model.specs.Turns.{Turn, at_rest}
use Rattle.act_model.specs.Worlds.{WorldState}
use Rattle.mpc_desk.specs.Desks.{DeskState, DeskAct, IsAtRest}
use Rattle.mpc_desk.specs.Disks.{DiskWords}
use Rattle.mpc_desk.specs.Events.{IsAct, IsQuery, IsMending, IsClosed}
use Rattle.mpc_desk.specs.Opening.{IsOpened, EndsOpening, disks_after}
use Rattle.mpc_desk.specs.Pairs.{FilePair, StandBoth, DiskPair, pair, AreRead, AreLeft, AreSince, PairState, disks_of}

-- where the office is: at its desk, or after a stop in the two files that the stop left of its disks
pub data Place (D : Type 0) : Type 0 where
  AtDesk : PairState D → Place D
  InFiles : FilePair → Place D

-- an office on disks: where it is, and the replies that were received, each with its request, the newest first
pub record OnDisks (D : Type 0) : Type 0 where
  pub place : Place D
  pub received : List (Request × Reply)

-- What is called, and what comes between. A query calls no device, and a mending writes nothing, so that a stop inside
-- one is a stop before it. No act, query or mending calls the first disk, which stands before each of them.
pub data Call (D : Type 0) : Type 0 where
  -- an act, and a query of this desk; and whether the reply was received
  Acted : D → DeskAct D → Bool → Call D
  Asked : D → DeskState D → Request → Reply → Bool → Call D
  -- a mending that takes the one desk to the other
  Mended : D → DeskState D → Result Settled Failed → DeskState D → Call D
  -- a stop at this desk, and one inside the act that would have gone on so; with the files that it left
  Stopped : PairState D → FilePair → Call D
  StoppedInside : D → DeskAct D → FilePair → Call D
  -- a closing of this desk, which gives these disks back; with the files as which the disks are read later
  Closed : PairState D → DiskPair D → FilePair → Call D
  -- an opening of these disks, with these files, as this desk
  Opened : FilePair → DiskPair D → PairState D → Call D
  -- an opening of these disks, with these files, that failed, or stopped where it would have ended so; with the files
  -- that are there after it
  Unopened : FilePair → DiskPair D → Result (PairState D) (OpenFault × D × D) → FilePair → Call D

-- with the reply, where it was received
abbrev pub with_reply : Bool → Request → Reply → List (Request × Reply) → List (Request × Reply)
with_reply received request reply others = if received then (request, reply) ∷ others else others

-- the disks read these files, and a crash may leave no others: they came back after a stop
abbrev pub AreBack : {D : Type 0} → DiskWords D → DiskPair D → FilePair → Type 0
AreBack on disks files = AreRead on disks files × ((others : FilePair) → AreLeft on disks others → others ≡ files)

-- from the one place to the other, with these replies received
abbrev pub Goes : {D : Type 0} → OnDisks D → Place D → Place D → List (Request × Reply) → OnDisks D → Type 0
Goes before from to received after =
    (before.place ≡ from) × (after.place ≡ to) × (after.received ≡ received)

-- the office with this first disk and this desk
abbrev pub beside : {D : Type 0} → D → DeskState D → PairState D
beside first desk = record { first = first; chained = desk }

-- This call takes the office from one state to the other. The files that a stop leaves are such as a crash may leave of
-- the disks: now, or at some moment since the act or the opening began. What is opened are disks that read them.
abbrev pub IsCalled : {D : Type 0} → DiskWords D → Key → ℕ → OnDisks D → Call D → OnDisks D → Type 0
IsCalled on founder limit before (Acted first act received) after =
    Goes before (AtDesk (beside first act.old)) (AtDesk (beside first act.new))
    (with_reply received act.request act.reply before.received) after
    × IsAct on act
IsCalled on founder limit before (Asked first desk request reply received) after =
    Goes before (AtDesk (beside first desk)) (AtDesk (beside first desk))
    (with_reply received request reply before.received) after
    × IsQuery on desk request reply
IsCalled on founder limit before (Mended first old result new) after =
    Goes before (AtDesk (beside first old)) (AtDesk (beside first new)) before.received after
    × IsMending on old result new
IsCalled on founder limit before (Stopped office files) after =
    Goes before (AtDesk office) (InFiles files) before.received after × AreLeft on (disks_of office) files
IsCalled on founder limit before (StoppedInside first act files) after =
    Goes before (AtDesk (beside first act.old)) (InFiles files) before.received after × IsAct on act
    × AreSince on (pair first act.new.disk) (pair first act.old.disk) files
IsCalled on founder limit before (Closed office disks files) after =
    Goes before (AtDesk office) (InFiles files) before.received after × IsClosed office disks.first disks.second
    × AreLeft on disks files
IsCalled on founder limit before (Opened files disks office) after =
    Goes before (InFiles files) (AtDesk office) before.received after × AreRead on disks files
    × IsOpened on founder limit disks office
IsCalled on founder limit before (Unopened files disks result left) after =
    Goes before (InFiles files) (InFiles left) before.received after × AreBack on disks files
    × EndsOpening on founder limit disks result × AreSince on (disks_after result) disks left

-- calls one after another, each from the state that the last one left
abbrev pub Calls : {D : Type 0} → DiskWords D → Key → ℕ → OnDisks D → List (Call D) → OnDisks D → Type 0
Calls on founder limit before [] after = after ≡ before
Calls {D} on founder limit before (call ∷ calls) after =
    (between : OnDisks D) × IsCalled on founder limit before call between × Calls on founder limit between calls after

-- ---- the world that the office is in

-- a desk of this founder and this limit is the office of the world, which runs; two files stand for its history, and it
-- stands still with nothing in doubt
abbrev pub IsPlacedIn : {D : Type 0} → DiskWords D → Key → ℕ → Place D → WorldState → Type 0
IsPlacedIn on founder limit (AtDesk office) world =
    (world.stopped ≡ false) × (world.office ≡ office.chained.state) × (office.chained.founder ≡ founder)
    × (office.chained.limit ≡ limit) × IsAtRest on.leaves office.chained
IsPlacedIn on founder limit (InFiles files) world =
    (world.stopped ≡ true) × (world.office ≡ at_rest world.office.settled) × StandBoth files world.office.settled

-- a reply with its request
abbrev pub reply_in : Turn → Request × Reply
reply_in turn = (turn.request, turn.reply)

-- the office is in this state of the world, and the replies that were received are those that the world has
pub record IsIn {D : Type 0} (on : DiskWords D) (founder : Key) (limit : ℕ) (office : OnDisks D) (world : WorldState)
    : Type 0 where
  pub place : IsPlacedIn on founder limit office.place world
  pub received : office.received ≡ map reply_in world.received

-- ---- what was answered

-- the history that is kept there: that of the desk, or the one that the files stand for
abbrev pub IsKeptAt : {D : Type 0} → Place D → List Entry → Type 0
IsKeptAt (AtDesk office) history = history ≡ office.chained.state.settled
IsKeptAt (InFiles files) history = StandBoth files history

-- each 200 of an act among the replies is acknowledged by the history as it is now
abbrev pub AreAcknowledged : Key → List Entry → List (Request × Reply) → Type 0
AreAcknowledged founder now received = AllByRecursion (λ (answer : Request × Reply). (text : List ℕ)
    → is_act answer.0.verb ≡ true → answer.1 ≡ Done text → IsAcknowledged founder now answer.0 text now) received
