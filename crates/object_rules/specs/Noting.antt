-- What a deed asks of the files that it changes.
use Rattle.std.specs.Prelude.{◌≡◌, ◌≢◌, ◌<◌, ◌≤◌, ℕ, Bool, true, false, IsFalse, List, ◌++◌, length, reverse, Option}
use Rattle.std.specs.Prelude.{Some, None}
use Rattle.std.specs.List.{AllByRecursion}
use Rattle.std.specs.Option.{option_and_then}
use Rattle.packed_names.specs.declared.name.Designation.{Designation}
use Rattle.packed_names.specs.declared.name.Designation.TheVariants.{Provisional}
use Rattle.packed_names.specs.declared.provisional.Provisional.{Provisional as ProvisionalName}
use Rattle.packed_names.specs.Ranges.{IsHalfMonth, limit_of}
use Rattle.designate_core.specs.Takes.{RowAct, given_in, is_begun}
use Rattle.identify_core.specs.declared.link.Link.{Link}
use Rattle.identify_core.specs.Acts.{LinkAct}
use Rattle.identify_core.specs.Principals.{StandFor, principal_of, IsPrincipal}
use Rattle.numbering_core.specs.declared.numbering.Numbering.{Numbering}
use Rattle.numbering_core.specs.Numbers.{IsUnbroken}
use Rattle.tracklet_file.specs.declared.tracklet.Tracklet.{Tracklet}
use Rattle.tracklet_file.specs.Observations.{track_of}
use Rattle.tracklet_file.specs.Contents.{Contents}
use Rattle.tracklet_file.specs.Tracklets.{IsTracklet, home_of, with_home}
use Rattle.act_model.specs.declared.deed.Deed.{Deed}
use Rattle.act_model.specs.declared.deed.Deed.TheVariants.{Designated, Attributed, Released, Identified, Separated}
use Rattle.act_model.specs.declared.deed.Deed.TheVariants.{Judged, Numbered, Opened, Retracted}
use Rattle.act_model.specs.Holdings.{Holdings, with_homes}
use Rattle.act_model.specs.Designations.{with_orders}
use Rattle.act_model.specs.Fitting.{AreNew, AreTracklets}

-- a half-month in which a designation is given has one more, and one that is opened isn't begun and can have the count
abbrev pub RowsDeed : List RowAct → Deed → Type 0
RowsDeed rows (Designated tracklets given discovery) =
    IsHalfMonth given.half × (given_in given.half rows < limit_of given.half)
RowsDeed rows (Opened half given carried) = IsFalse (is_begun half rows) × (1 ≤ given) × (given ≤ limit_of half)
RowsDeed rows _ = Unit {0}

-- orders from 1 to the count of what was given
abbrev pub AreWithin : ℕ → List ℕ → Type 0
AreWithin given orders = AllByRecursion (λ order. (1 ≤ order) × (order ≤ given)) orders

-- the links stand for acts that gave none of these designations, where they are given one after the other
abbrev pub AreUnlinked : List Link → List ProvisionalName → Type 0
AreUnlinked links names = (acts : List LinkAct) × StandFor links acts × AreNew acts names

-- a designation that is given is new, also one that is carried; those that are identified are two principals, and what
-- is separated is none
abbrev pub LinksDeed : List Link → Deed → Type 0
LinksDeed links (Designated tracklets given discovery) = principal_of links (Provisional given) ≡ None
LinksDeed links (Identified p s) = IsPrincipal links p × IsPrincipal links s × (p ≢ s)
LinksDeed links (Separated s) = ¬ IsPrincipal links s
LinksDeed links (Opened half given carried) = AreWithin given carried × AreUnlinked links (with_orders half carried)
LinksDeed links _ = Unit {0}

-- what is released is there
abbrev pub TouchesDeed : List Tracklet → Deed → Type 0
TouchesDeed tracklets (Released t) = IsTracklet tracklets t
TouchesDeed tracklets _ = Unit {0}

-- the numbers go on with those that were given
abbrev pub NumbersDeed : List Numbering → Deed → Type 0
NumbersDeed numbered (Numbered pairs) = IsUnbroken (reverse pairs ++ numbered)
NumbersDeed numbered _ = Unit {0}

-- the tracklets that get a home, or lose it, are there
abbrev pub HomesDeed : List Tracklet → Deed → Type 0
HomesDeed tracklets (Designated ts given discovery) = AreTracklets tracklets ts
HomesDeed tracklets (Attributed t to) = IsTracklet tracklets t
HomesDeed tracklets (Released t) = IsTracklet tracklets t
HomesDeed tracklets _ = Unit {0}

-- how many links a deed adds
abbrev pub linked_by : Deed → ℕ
linked_by (Designated tracklets given discovery) = 1
linked_by (Opened half given carried) = length carried
linked_by _ = 0

-- how many entries of the register a deed may add
abbrev pub registered_by : Deed → ℕ
registered_by (Judged p u oppositions) = 1
registered_by (Numbered pairs) = length pairs
registered_by _ = 0

-- how many entries of the register a deed may give back: of the verdicts that it sets or voids, and of what it numbers
abbrev pub returned_by : Deed → ℕ
returned_by (Judged p u oppositions) = 1
returned_by (Numbered pairs) = length pairs
returned_by (Identified p s) = 2
returned_by (Attributed t to) = 1
returned_by (Separated s) = 1
returned_by (Released t) = 1
returned_by (Retracted k) = 1
returned_by _ = 0

-- how many tracklets get another home by a deed
abbrev pub homed_by : Deed → ℕ
homed_by (Designated ts given discovery) = length ts
homed_by (Attributed t to) = 1
homed_by (Released t) = 1
homed_by _ = 0

-- what a file of observations and tracklets holds
abbrev pub held_in : Contents → Holdings
held_in file = record { observations = file.observations; tracklets = file.tracklets }

-- the principal of the object that a tracklet is in, as links have it
abbrev pub object_in : Contents → List Link → ℕ → Option Designation
object_in file links t = option_and_then (principal_of links) (home_of file.tracklets t)

-- that of the object that an observation's tracklet is in
abbrev pub object_of_seen_in : Contents → List Link → ℕ → Option Designation
object_of_seen_in file links k = option_and_then (object_in file links) (track_of file.observations k)

-- the tracklets with a deed that gives homes or takes one
abbrev pub with_deed_homes : List Tracklet → Deed → List Tracklet
with_deed_homes tracklets (Designated ts given discovery) = with_homes tracklets ts (Some (Provisional given))
with_deed_homes tracklets (Attributed t to) = with_home tracklets t (Some to)
with_deed_homes tracklets (Released t) = with_home tracklets t None
with_deed_homes tracklets _ = tracklets

-- the deed is one on tracklets, objects or numbers
abbrev pub is_of_objects : Deed → Bool
is_of_objects (Designated ts given discovery) = true
is_of_objects (Attributed t to) = true
is_of_objects (Released t) = true
is_of_objects (Identified p s) = true
is_of_objects (Separated s) = true
is_of_objects (Judged p u oppositions) = true
is_of_objects (Numbered pairs) = true
is_of_objects (Opened half given carried) = true
is_of_objects _ = false
