-- What comes to the rows of the half-months: a half-month is opened with a count, or an object takes the next
-- designation of its half-month. Lists of these acts have the newest first.
use Rattle.std.specs.Prelude.{ℕ, ◌+◌, nat_lt, Bool, false, ◌||◌, if◌then◌else◌, List, [], ◌∷◌, Option, Some, None}
use Rattle.std.specs.Ordering.{eq_by_cmp}
use Rattle.packed_names.specs.declared.half_month.HalfMonth.{HalfMonth}
use Rattle.packed_names.specs.declared.provisional.Provisional.{Provisional}
use Rattle.packed_names.specs.declared.name.Designation.{Designation}
use Rattle.packed_names.specs.declared.name.Designation.TheVariants as designations
use Rattle.packed_names.specs.Order.{half_cmp, designation_cmp}
use Rattle.packed_names.specs.Ranges.{limit_of}

-- the half-month in which an object was discovered, and the number of the observation by which it was
pub record Take : Type 0 where
  pub half : HalfMonth
  pub discovery : ℕ

-- a half-month is opened, in which this many designations were given elsewhere; an object takes a designation
pub data RowAct : Type 0 where
  Opened : HalfMonth → ℕ → RowAct
  Took : Take → RowAct

-- what contracts see of rows: all acts, and for how many more there is memory
pub record RowsValue : Type 0 where
  pub acts : List RowAct
  pub spare : ℕ

-- the opening count of a half-month: how many designations were given in it elsewhere; 0 where it wasn't opened
abbrev pub opened_in : HalfMonth → List RowAct → ℕ
opened_in half [] = 0
opened_in half (Opened opened given ∷ past) = if eq_by_cmp half_cmp opened half then given else opened_in half past
opened_in half (Took take ∷ past) = opened_in half past

-- how many objects took a designation of a half-month
abbrev pub taken_in : HalfMonth → List RowAct → ℕ
taken_in half [] = 0
taken_in half (Opened opened given ∷ past) = taken_in half past
taken_in half (Took take ∷ past) =
    if eq_by_cmp half_cmp take.half half then taken_in half past + 1 else taken_in half past

-- how many designations were given in a half-month, elsewhere or here
abbrev pub given_in : HalfMonth → List RowAct → ℕ
given_in half acts = opened_in half acts + taken_in half acts

-- a half-month is begun where it was opened, or an object took a designation of it
abbrev pub is_begun : HalfMonth → List RowAct → Bool
is_begun half [] = false
is_begun half (Opened opened given ∷ past) = eq_by_cmp half_cmp opened half || is_begun half past
is_begun half (Took take ∷ past) = eq_by_cmp half_cmp take.half half || is_begun half past

-- the designation that comes next in a half-month: its order is one more than the count
abbrev pub next_in : HalfMonth → List RowAct → Provisional
next_in half acts = record { half = half; order = given_in half acts + 1 }

-- the same, where the half-month isn't full
abbrev pub next_of : HalfMonth → List RowAct → Option Provisional
next_of half acts = if nat_lt (given_in half acts) (limit_of half) then Some (next_in half acts) else None

-- the designations that objects took, the newest first
abbrev pub designations_given : List RowAct → List Provisional
designations_given [] = []
designations_given (Opened half given ∷ past) = designations_given past
designations_given (Took take ∷ past) = next_in take.half past ∷ designations_given past

-- the observation by which the object of a designation was discovered; none where no object took the designation
abbrev pub discovery_of : Designation → List RowAct → Option ℕ
discovery_of d [] = None
discovery_of d (Opened half given ∷ past) = discovery_of d past
discovery_of d (Took take ∷ past) =
    let given = designations.Provisional (next_in take.half past) in
    if eq_by_cmp designation_cmp d given then Some take.discovery else discovery_of d past
