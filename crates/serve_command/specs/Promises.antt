-- What `serve` promises, over every sink, every two disks, and every clock and door.
use Rattle.std.specs.Prelude.{◌≡◌, ℕ, List, [], Option}
use Rattle.act_bodies.specs.declared.key.Key.{Key}
use Rattle.act_model.specs.declared.entry.Entry.{Entry}
use Rattle.act_model.specs.Legal.{IsLegal}
use Rattle.mpc_desk.specs.Pairs.{FilePair, StandBoth, AreRead}
use Rattle.command_ends.specs.declared.status.Status.TheVariants.{Usage, BadFrame, Damaged, ReadFault, DoorFault}
use Rattle.command_ends.specs.declared.status.Status.TheVariants.{MirrorFault, TooMany}
use Rattle.command_ends.specs.Courses.{OutsideWords, Change, IsUncalled, Course, HasCause, SinkCause, DiskCause}
use Rattle.command_ends.specs.Courses.{IsFaultless, AreFaultless}
use Rattle.command_ends.specs.Statuses.{IsDoneOrNoMemory}
use Rattle.serve_command.specs.declared.ends.LinkEnd.{LinkEnd}
use Rattle.serve_command.specs.Gathering.{door_of}
use Rattle.serve_command.specs.Links.{LinkWords}
use Rattle.serve_command.specs.Runs.{Ends}

-- what a door says about itself, and its links of themselves
pub record DoorWords (G I O : Type 0) : Type 1 where
  pub links : G → Option (List (I × O))
  pub faults : G → ℕ
  pub each : LinkWords I O

abbrev pub door_words : {G I O : Type 0} → (G → Option (List (I × O))) → (G → ℕ) → LinkWords I O → DoorWords G I O
door_words links faults each = record { links = links; faults = faults; each = each }

-- What was attended, added, kept, mended and written at each end, how the links ended, in the door's order, and what a
-- crash at any moment leaves. The places of each link's calls rise in the one history, and a reply that the disk failed
-- comes only where the disk's count of faults rose in that call.
--
-- Files that stand for a legal history, and no fault of the disks, the door or the sink, give `Done`, or `NoMemory`;
-- and such files aren't damaged. A fresh first file beside a second one that isn't in force stands for the history
-- without entries; faults of links play no part. Each fault has its cause. It ends with none of `Usage`, `BadFrame`,
-- `ReadFault`, `MirrorFault` and `TooMany`.
pub record KeepsServe {K D C G I O : Type 0} (on : OutsideWords K D C) (doors : DoorWords G I O)
    (course : Course K D C) (door : Change G) (ends : List (LinkEnd I O)) (founder : Key) (connections : ℕ)
    : Type 0 where
  pub served : Ends on.disk doors.each
      (record {
        founder = founder;
        disks = course.disks.old;
        clock = on.clock course.clock.old;
        door = door_of doors.links doors.faults door.old;
        most = connections;
        taken = on.sink.taken course.sink.old;
      })
      (record {
        disks = course.disks.new;
        door = door_of doors.links doors.faults door.new;
        ends = ends;
        taken = on.sink.taken course.sink.new;
        added = course.added;
        status = course.status;
      })
      (IsUncalled course.sink × IsUncalled course.clock × IsUncalled door × (ends ≡ []))
      (IsUncalled course.clock × IsUncalled door) (IsUncalled course.sink)
  pub complete : (files : FilePair) (history : List Entry) → AreRead on.disk course.disks.old files
      → StandBoth files history → IsLegal founder history → AreFaultless on.disk course.disks
      → IsFaultless doors.faults door → IsFaultless on.sink.faults course.sink → IsDoneOrNoMemory course.status
  pub sound : (files : FilePair) (history : List Entry) (file offset : ℕ) → AreRead on.disk course.disks.old files
      → StandBoth files history → IsLegal founder history → course.status ≡ Damaged file offset → ⊥
  pub disk_cause : DiskCause on.disk course.disks course.status
  pub door_cause : HasCause doors.faults door DoorFault course.status
  pub write_cause : SinkCause on.sink course.sink course.status
  pub own : (course.status ≡ Usage → ⊥) × (course.status ≡ ReadFault → ⊥)
      × ((offset : ℕ) → course.status ≡ BadFrame offset → ⊥) × (course.status ≡ MirrorFault → ⊥)
      × ((count : ℕ) → course.status ≡ TooMany count → ⊥)
