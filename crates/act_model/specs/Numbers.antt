-- The numbers that the office gave, and the objects that can be numbered.
use Rattle.std.specs.Prelude.{ℕ, ◌+◌, ◌-◌, Bool, ◌&&◌, is_none, List, [], ◌∷◌, ◌++◌, length, reverse, filter}
use Rattle.std.specs.List.{list_any}
use Rattle.packed_names.specs.declared.name.Designation.{Designation}
use Rattle.identify_core.specs.Acts.{LinkAct, is_principal_of}
use Rattle.numbering_core.specs.declared.numbering.Numbering.{Numbering}
use Rattle.numbering_core.specs.Numbers.{number_of}
use Rattle.numbering_core.specs.Verdicts.{VerdictAct, verdict_in_force, is_good}
use Rattle.tracklet_file.specs.declared.observation.Observation.{Observation}
use Rattle.act_model.specs.declared.deed.Deed.{Deed}
use Rattle.act_model.specs.declared.deed.Deed.TheVariants.{Numbered}
use Rattle.act_model.specs.Holdings.{Holdings}
use Rattle.act_model.specs.Designations.{principals}
use Rattle.act_model.specs.Verdicts.{object_of_track}

-- ---- numbers given

-- numbers that are given stand before those that were given earlier, the newest first; no other deed gives one
abbrev pub with_numbers : Deed → List Numbering → List Numbering
with_numbers (Numbered pairs) numbered = reverse pairs ++ numbered
with_numbers _ numbered = numbered

abbrev pub numbers_of : List Deed → List Numbering
numbers_of [] = []
numbers_of (deed ∷ past) = with_numbers deed (numbers_of past)

-- ---- objects that can be numbered

-- the observation is live, and of the object with this principal
abbrev pub is_in_object : Holdings → List LinkAct → Designation → Observation → Bool
is_in_object held acts p o = o.live && is_principal_of p (object_of_track held acts o.track)

-- the object has a live observation
abbrev pub is_observed : Holdings → List LinkAct → Designation → Bool
is_observed held acts p = list_any (is_in_object held acts p) held.observations

-- the object has no number, a live observation, and a good verdict that is in force
abbrev pub is_eligible : Holdings → List LinkAct → List VerdictAct → List Numbering → Designation → Bool
is_eligible held acts verdicts numbered p =
    is_none (number_of numbered p) && (is_observed held acts p && is_good (verdict_in_force verdicts p))

-- the principal designations of the objects that can be numbered, in the order of designations
abbrev pub eligible_objects : Holdings → List LinkAct → List VerdictAct → List Numbering → List Designation
eligible_objects held acts verdicts numbered = filter (is_eligible held acts verdicts numbered) (principals acts)

-- ---- numbers that are to be given

-- designations with numbers from the first upwards
abbrev pub numbered_from : ℕ → List Designation → List Numbering
numbered_from first [] = []
numbered_from first (d ∷ more) = record { designation = d; number = record { 0 = first } }
    ∷ numbered_from (first + 1) more

-- the last of this many numbers from the first on
abbrev pub last_number : ℕ → List Designation → ℕ
last_number first designations = (first + length designations) - 1
