-- Links that a door gave one after another, each attended by a pass that was split from the root, and joined into it.
use Rattle.std.specs.Prelude.{◌≡◌, ℕ, ◌+◌, ◌<◌, ◌≤◌, List, ◌++◌, length, map, reverse, Option, IfSome}
use Rattle.std.specs.List.{AllByRecursion}
use Rattle.std.specs.List.Sorted.{IsPermutation}
use Rattle.call_log.specs.Counts.{Rises}
use Rattle.desk_io.specs.Doors.{Gives}
use Rattle.act_model.specs.declared.entry.Entry.{Entry}
use Rattle.act_model.specs.declared.keeper.Office.{Office}
use Rattle.act_model.specs.Conducts.{Extends}
use Rattle.intake_lock.specs.declared.view.Role.{Role}
use Rattle.intake_lock.specs.declared.view.Role.TheVariants.{Root}
use Rattle.intake_lock.specs.declared.view.View.{View}
use Rattle.intake_lock.specs.Passes.{PassState}
use Rattle.intake_lock.specs.Rule.{MOST}
use Rattle.intake_lock.specs.Views.{history_seen}
use Rattle.act_model.specs.Clocks.{ClockState}
use Rattle.serve_command.specs.declared.ends.LinkEnd.{LinkEnd}
use Rattle.serve_command.specs.declared.accepting.Stop.{Stop}
use Rattle.serve_command.specs.declared.accepting.Stop.TheVariants.{Full, Shut, Failed, NoMemory}
use Rattle.serve_command.specs.Links.{LinkWords, Attendance, link_of, end_of, calls_in}

-- ---- a door

-- what a door tells: its links to come, where these are known, and how often it has failed
pub record DoorState (I O : Type 0) : Type 0 where
  pub links : Option (List (I × O))
  pub faults : ℕ

abbrev pub door_of : {G I O : Type 0} → (G → Option (List (I × O))) → (G → ℕ) → G → DoorState I O
door_of links faults door = record { links = links door; faults = faults door }

-- Why no more links were taken than these: as many came as were wanted; the door was shut, and gave all links that it
-- had told; it failed; or memory was refused.
abbrev pub Stops : {I O : Type 0} → ℕ → List (I × O) → DoorState I O → DoorState I O → Stop → Type 0
Stops most came before after Full = (length came ≡ most) × (after.faults ≡ before.faults)
Stops most came before after Shut =
    (length came < most) × (after.faults ≡ before.faults) × IfSome before.links (λ told. told ≡ came)
Stops most came before after Failed = (length came < most) × Rises before.faults after.faults
Stops most came before after NoMemory = after.faults ≡ before.faults

-- a root from which this many more branches may be split
abbrev pub IsRootFor : ℕ → Role → Type 0
IsRootFor more role = (out : ℕ) × (role ≡ Root out) × (out + more ≤ MOST)

-- a pass of the same lock, which is the same root or branch
abbrev pub IsSamePass : PassState → PassState → Type 0
IsSamePass before after = (after.lock ≡ before.lock) × (after.view.role ≡ before.view.role)

-- ---- links

-- another clock with the same readings to come, and the same last one
pub record IsAnother (clock other : ClockState) : Type 0 where
  pub to_come : (k : ℕ) → other.to_come k ≡ clock.to_come k
  pub last : other.last ≡ clock.last

-- The link was attended with another clock than this one, at this office or one that it grew to: what its pass had seen
-- before begins no earlier, and what it has seen after is a beginning of the later history.
pub record IsBetween {I O : Type 0} {on : LinkWords I O} (clock : ClockState) (opening : Office) (later : List Entry)
    (attendance : Attendance on) : Type 0 where
  pub founder : attendance.start.view.office.founder ≡ opening.founder
  pub limit : attendance.start.view.office.limit ≡ opening.limit
  pub another : IsAnother clock attendance.start.clock
  pub first : Extends opening.state.settled (history_seen attendance.start.view)
  pub last : Extends (history_seen attendance.after) later

-- what there is before links are taken in: what the root knows, the clock, the door, how many links may come, and the
-- ends of earlier ones
pub record GatherStart (I O : Type 0) : Type 0 where
  pub view : View
  pub clock : ClockState
  pub door : DoorState I O
  pub most : ℕ
  pub ends : List (LinkEnd I O)

-- what there is when links were taken in: what the root knows, the door, the ends of all links, and why no further one
-- was taken
pub record GatherEnd (I O : Type 0) : Type 0 where
  pub view : View
  pub door : DoorState I O
  pub ends : List (LinkEnd I O)
  pub stop : Stop

abbrev pub gather_start : {I O : Type 0} → View → ClockState → DoorState I O → ℕ → List (LinkEnd I O) → GatherStart I O
gather_start view clock door most ends = record { view = view; clock = clock; door = door; most = most; ends = ends }

abbrev pub gather_end : {I O : Type 0} → View → DoorState I O → List (LinkEnd I O) → Stop → GatherEnd I O
gather_end view door ends stop = record { view = view; door = door; ends = ends; stop = stop }

-- The root took in these links: the door gave them in this order, their ends stand newest first after the earlier
-- ones, and the root's calls are its earlier ones and those that were made for the links.
pub record Gathers {I O : Type 0} (on : LinkWords I O) (start : GatherStart I O) (end : GatherEnd I O) : Type 0 where
  pub attendances : List (Attendance on)
  pub gave : Gives start.door.links end.door.links (map link_of attendances)
  pub ended : end.ends ≡ start.ends ++ reverse (map end_of attendances)
  pub each : AllByRecursion (IsBetween start.clock start.view.office (history_seen end.view)) attendances
  pub calls : IsPermutation (calls_in attendances ++ start.view.mine) end.view.mine
  pub grows : Extends (history_seen start.view) (history_seen end.view)
  pub founder : end.view.office.founder ≡ start.view.office.founder
  pub limit : end.view.office.limit ≡ start.view.office.limit
  pub stops : Stops start.most (map link_of attendances) start.door end.door end.stop
