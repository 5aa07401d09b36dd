-- The office as contracts see it, and an act that is ready to become its next entry.
use Rattle.std.specs.Prelude.{◌≡◌, ℕ, ◌+◌, ◌<◌, ◌≤◌, ◌≤ℤ◌, true, false, List, [], ◌∷◌, length, unwrap_or, IsTrue}
use Rattle.std.specs.Prelude.{Option, Result, Ok, Err}
use Rattle.obs_record.specs.declared.rule.RuleCode.{RuleCode}
use Rattle.station_tables.specs.Stations.{overlaps}
use Rattle.station_tables.specs.Codes.{has_code}
use Rattle.tracklet_file.specs.Contents.{Contents}
use Rattle.tracklet_file.specs.Observations.{is_live}
use Rattle.act_bodies.specs.declared.key.Key.{Key}
use Rattle.act_model.specs.declared.deed.Deed.{Deed}
use Rattle.act_model.specs.declared.deed.Deed.TheVariants.{Enrolled, Stationed, Coded, Submitted, Designated}
use Rattle.act_model.specs.declared.deed.Deed.TheVariants.{Attributed, Released, Identified, Separated, Judged}
use Rattle.act_model.specs.declared.deed.Deed.TheVariants.{Numbered, Opened, Retracted, Nothing}
use Rattle.act_model.specs.declared.entry.Entry.{Entry}
use Rattle.act_model.specs.declared.request.TheConstants.{BODY_BYTES}
use Rattle.act_model.specs.declared.roster.TheConstants.{CALLERS}
use Rattle.act_model.specs.declared.taken.Placed.{Placed}
use Rattle.act_model.specs.declared.taken.Taken.{Taken}
use Rattle.act_model.specs.Deeds.{deed_of, deeds}
use Rattle.act_model.specs.Requests.{is_act}
use Rattle.act_model.specs.Roster.{members, next_caller}
use Rattle.act_model.specs.OfficeTables.{tables_of}
use Rattle.act_model.specs.Taken.{tracks_with}
use Rattle.act_model.specs.Holdings.{Holdings, holdings}
use Rattle.act_model.specs.Places.{added_by}
use Rattle.act_model.specs.Fitting.{FitsObjects}
use Rattle.act_model.specs.Replies.{entry_answer}
use Rattle.object_rules.specs.Noting.{linked_by, registered_by, returned_by, homed_by}
use Rattle.station_tables.specs.Rows.{TableRows}

-- ---- the office

-- for how many more entries, callers, observations, tracklets, acts on the rows, links and entries of the register
-- there is room
pub record Room : Type 0 where
  pub entries : ℕ
  pub callers : ℕ
  pub observations : ℕ
  pub tracklets : ℕ
  pub rows : ℕ
  pub links : ℕ
  pub register : ℕ

-- the office: the founder's key, the history with the newest entry first, and for how much more there is room
pub record Office : Type 0 where
  pub founder : Key
  pub history : List Entry
  pub spare : Room

-- what a file of observations and tracklets holds
abbrev pub held_in : Contents → Holdings
held_in file = record { observations = file.observations; tracklets = file.tracklets }

-- ---- an act that is ready

-- an entry of an act, with a body that a request may have
abbrev pub IsOfAct : Entry → Type 0
IsOfAct entry = (is_act entry.verb ≡ true) × (length entry.body ≤ BODY_BYTES)

-- an act that is ready to become an entry: the entry, its answer, its deed, and the tables with it, or None where they
-- stay
pub record Ready : Type 0 where
  pub entry : Entry
  pub answer : List ℕ
  pub deed : Deed
  pub tables : Option TableRows

-- the tracklet of a line is one of these, or the next one
abbrev pub IsTracked : ℕ → Result Placed RuleCode → Type 0
IsTracked now (Ok placed) = (1 ≤ placed.track) × (placed.track ≤ now + 1)
IsTracked now (Err rule) = Unit {0}

-- the tracklets of the lines of a batch are there, or begin one after the other
abbrev pub AreTracked : ℕ → List Taken → Type 0
AreTracked now [] = Unit {0}
AreTracked now (taken ∷ lines) = IsTracked now taken.found × AreTracked (tracks_with now taken.found) lines

-- what a deed is sure of that comes after these, since the office refuses an act else
abbrev pub Fits : List Deed → Deed → Type 0
Fits past (Enrolled member) = next_caller (members past) < CALLERS
Fits past (Stationed code from to) = (from ≤ℤ to) × (overlaps (tables_of past).stations code from to ≡ false)
Fits past (Coded kind letter word) = has_code (tables_of past).codes kind letter word ≡ false
Fits past (Submitted lines) = AreTracked (length (holdings past).tracklets) lines
Fits past (Designated tracklets given discovery) = FitsObjects past (Designated tracklets given discovery)
Fits past (Attributed t to) = FitsObjects past (Attributed t to)
Fits past (Released t) = FitsObjects past (Released t)
Fits past (Identified p s) = FitsObjects past (Identified p s)
Fits past (Separated s) = FitsObjects past (Separated s)
Fits past (Judged p u oppositions) = FitsObjects past (Judged p u oppositions)
Fits past (Numbered pairs) = FitsObjects past (Numbered pairs)
Fits past (Opened half given carried) = FitsObjects past (Opened half given carried)
Fits past (Retracted k) = IsTrue (is_live (holdings past).observations k)
Fits past Nothing = Unit {0}

-- The act was worked out at this history: its answer and its deed are those of the entry there, and so are the tables
-- with it. The deed fits what was before it, and the roster with it has no more callers than it may have.
pub record IsReadyAt (past : List Entry) (ready : Ready) : Type 0 where
  pub answer : ready.answer ≡ entry_answer past ready.entry
  pub deed : ready.deed ≡ deed_of (deeds past) ready.entry
  pub fits : Fits (deeds past) ready.deed
  pub callers : length (members (deeds (ready.entry ∷ past))) < CALLERS
  pub tables : unwrap_or ready.tables (tables_of (deeds past)) ≡ tables_of (deeds (ready.entry ∷ past))

-- ---- room

-- there is room for an entry that does this deed; each line that is accepted may begin a tracklet
pub record IsRoomFor (deed : Deed) (room : Room) : Type 0 where
  pub entries : 0 < room.entries
  pub callers : 0 < room.callers
  pub observations : added_by deed ≤ room.observations
  pub tracklets : added_by deed ≤ room.tracklets
  pub rows : 1 ≤ room.rows
  pub links : linked_by deed ≤ room.links
  pub register : registered_by deed ≤ room.register

-- such an entry used no more of the room than it may need
pub record UsesAtMost (deed : Deed) (old new : Room) : Type 0 where
  pub entries : old.entries ≤ new.entries + 1
  pub callers : old.callers ≤ new.callers + 1
  pub observations : old.observations ≤ new.observations + added_by deed
  pub tracklets : old.tracklets ≤ new.tracklets + added_by deed
  pub rows : old.rows ≤ new.rows + 1
  pub links : old.links ≤ new.links + linked_by deed
  pub register : old.register ≤ new.register + registered_by deed

-- No memory was taken: there is more room than before only where a deed gave some back, an index entry of a tracklet or
-- one of the register.
pub record GivesBackAtMost (deed : Deed) (old new : Room) : Type 0 where
  pub entries : new.entries ≤ old.entries
  pub callers : new.callers ≤ old.callers
  pub observations : new.observations ≤ old.observations
  pub tracklets : new.tracklets ≤ old.tracklets + homed_by deed
  pub rows : new.rows ≤ old.rows
  pub links : new.links ≤ old.links
  pub register : new.register ≤ old.register + returned_by deed

-- what such an entry used of the room, and what it gave back
abbrev pub UsesRoom : Deed → Room → Room → Type 0
UsesRoom deed old new = UsesAtMost deed old new × GivesBackAtMost deed old new
