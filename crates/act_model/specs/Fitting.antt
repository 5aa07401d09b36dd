-- What a deed on tracklets, objects and numbers is sure of that comes after these, since the office refuses an act
-- else.
use Rattle.std.specs.Prelude.{◌≡◌, ◌≢◌, ◌<◌, ◌++◌, ℕ, List, [], ◌∷◌, reverse, Some, None, IsTrue, IsFalse}
use Rattle.packed_names.specs.declared.half_month.HalfMonth.{HalfMonth}
use Rattle.packed_names.specs.declared.provisional.Provisional.{Provisional as ProvisionalName}
use Rattle.packed_names.specs.declared.name.Designation.TheVariants.{Provisional}
use Rattle.packed_names.specs.Ranges.{IsProvisional, limit_of}
use Rattle.designate_core.specs.Takes.{RowAct, given_in, is_begun, next_in}
use Rattle.act_bodies.specs.Bodies.{IsOpening}
use Rattle.identify_core.specs.Acts.{LinkAct, principal}
use Rattle.identify_core.specs.Acts.LinkAct.{Given}
use Rattle.numbering_core.specs.Numbers.{IsUnbroken}
use Rattle.tracklet_file.specs.declared.tracklet.Tracklet.{Tracklet}
use Rattle.tracklet_file.specs.Tracklets.{IsTracklet}
use Rattle.act_model.specs.declared.deed.Deed.{Deed}
use Rattle.act_model.specs.declared.deed.Deed.TheVariants.{Designated, Attributed, Released, Identified, Separated}
use Rattle.act_model.specs.declared.deed.Deed.TheVariants.{Judged, Numbered, Opened}
use Rattle.act_model.specs.Holdings.{holdings}
use Rattle.act_model.specs.Designations.{row_acts_of, links_of, is_given, with_orders}
use Rattle.act_model.specs.Numbers.{numbers_of}

-- the designation is the next one of its half-month, which has one more, and the office didn't give it before
pub record IsNew (rows : List RowAct) (acts : List LinkAct) (given : ProvisionalName) : Type 0 where
  pub next : given ≡ next_in given.half rows
  pub free : given_in given.half rows < limit_of given.half
  pub name : IsProvisional given
  pub unknown : principal acts (Provisional given) ≡ None

-- the office gave none of the designations before, where they are given one after the other
abbrev pub AreNew : List LinkAct → List ProvisionalName → Type 0
AreNew acts [] = Unit {0}
AreNew acts (given ∷ more) =
    (principal acts (Provisional given) ≡ None) × AreNew (Given (Provisional given) ∷ acts) more

-- the half-month wasn't begun, its count and the orders that are carried are in their ranges, and the office gave none
-- of the designations that are carried before
pub record MayOpen (rows : List RowAct) (acts : List LinkAct) (half : HalfMonth) (given : ℕ) (carried : List ℕ)
    : Type 0 where
  pub unbegun : IsFalse (is_begun half rows)
  pub ranges : IsOpening (record { half = half; given = given; carried = carried })
  pub unknown : AreNew acts (with_orders half carried)

-- all of the tracklets are there
abbrev pub AreTracklets : List Tracklet → List ℕ → Type 0
AreTracklets tracklets [] = Unit {0}
AreTracklets tracklets (t ∷ more) = IsTracklet tracklets t × AreTracklets tracklets more

abbrev pub FitsObjects : List Deed → Deed → Type 0
FitsObjects past (Designated tracklets given discovery) =
    AreTracklets (holdings past).tracklets tracklets × IsNew (row_acts_of past) (links_of past) given
FitsObjects past (Attributed t to) = IsTracklet (holdings past).tracklets t × IsTrue (is_given (links_of past) to)
FitsObjects past (Released t) = IsTracklet (holdings past).tracklets t
FitsObjects past (Identified p s) =
    (principal (links_of past) p ≡ Some p) × (principal (links_of past) s ≡ Some s) × (p ≢ s)
FitsObjects past (Separated s) = IsTrue (is_given (links_of past) s) × (¬ (principal (links_of past) s ≡ Some s))
FitsObjects past (Judged p u oppositions) = principal (links_of past) p ≡ Some p
FitsObjects past (Numbered pairs) = IsUnbroken (reverse pairs ++ numbers_of past)
FitsObjects past (Opened half given carried) = MayOpen (row_acts_of past) (links_of past) half given carried
FitsObjects past _ = Unit {0}
