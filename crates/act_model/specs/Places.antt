-- In which place each observation stands: retracted, isolated, or in an object.
use Rattle.std.specs.Prelude.{◌≡◌, Bool, ℕ, ◌+◌, ◌==◌, ◌&&◌, nat_le, if◌then◌else◌, List, ◌++◌, length, count_by}
use Rattle.std.specs.Prelude.{flat_map, Some, IsTrue}
use Rattle.packed_names.specs.declared.name.Designation.{Designation}
use Rattle.identify_core.specs.Acts.{LinkAct, principal}
use Rattle.tracklet_file.specs.Tracklets.{home_of}
use Rattle.act_model.specs.declared.deed.Deed.{Deed}
use Rattle.act_model.specs.declared.deed.Deed.TheVariants.{Submitted}
use Rattle.act_model.specs.declared.entry.Entry.{Entry}
use Rattle.act_model.specs.declared.tally.Tally.{Tally}
use Rattle.act_model.specs.Deeds.{deeds}
use Rattle.act_model.specs.Designations.{links_of, is_given, principals}
use Rattle.act_model.specs.Holdings.{Holdings, holdings, numbers_where, retracted_of, isolated_of}
use Rattle.act_model.specs.Numbers.{is_in_object}
use Rattle.act_model.specs.Taken.{accepted_in}
use Rattle.act_model.specs.Tallies.{tally}

-- how often a number stands in a list
abbrev pub times : ℕ → List ℕ → ℕ
times k numbers = count_by (λ number. number == k) numbers

-- an accepted observation has one of the numbers from 1 to their count
abbrev pub is_accepted_number : ℕ → ℕ → Bool
is_accepted_number accepted k = nat_le 1 k && nat_le k accepted

-- the live observations of the object with this principal designation
abbrev pub object_of : Holdings → List LinkAct → Designation → List ℕ
object_of held acts p = numbers_where (is_in_object held acts p) held.observations

-- those of all objects, one object after the other, in the order of their principal designations
abbrev pub objects_of : Holdings → List LinkAct → List ℕ
objects_of held acts = flat_map (object_of held acts) (principals acts)

-- the lists of the three places hold the number of each observation once, and no other number
abbrev pub EachStandsOnce : Holdings → List LinkAct → Type 0
EachStandsOnce held acts =
    (k : ℕ) → times k (retracted_of held ++ (isolated_of held ++ objects_of held acts))
    ≡ (if is_accepted_number (length held.observations) k then 1 else 0)

-- a tally counts the observations of each place, and these together are all that were accepted
pub record Counts (held : Holdings) (acts : List LinkAct) (t : Tally) : Type 0 where
  pub isolated : t.isolated ≡ length (isolated_of held)
  pub objects : t.objects ≡ length (objects_of held acts)
  pub retracted : t.retracted ≡ length (retracted_of held)
  pub accepted : t.isolated + t.objects + t.retracted ≡ t.accepted

-- Each accepted observation stands in exactly one place, so that no two objects share one. The home of each tracklet is
-- a designation that the office gave, and each principal designation is its own.
pub record OnePlace (history : List Entry) : Type 0 where
  pub once : EachStandsOnce (holdings (deeds history)) (links_of (deeds history))
  pub counts : Counts (holdings (deeds history)) (links_of (deeds history)) (tally history)
  pub homes : (t : ℕ) (d : Designation) →
      home_of (holdings (deeds history)).tracklets t ≡ Some d → IsTrue (is_given (links_of (deeds history)) d)
  pub own : (d p : Designation) →
      principal (links_of (deeds history)) d ≡ Some p → principal (links_of (deeds history)) p ≡ Some p

-- how many observations a deed adds
abbrev pub added_by : Deed → ℕ
added_by (Submitted lines) = accepted_in lines
added_by _ = 0
