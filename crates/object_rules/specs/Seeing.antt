-- What the rules are sure of about observations and their times.
use Rattle.std.specs.Prelude.{◌≡◌, true, ℕ, ℤ, Bool, nat_le, ◌&&◌, List, [], ◌∷◌, Option, Some, None, Result, Ok, Err}
use Rattle.std.specs.Prelude.{IsTrue, ◌⊎◌}
use Rattle.obs_time.specs.Dates.{day_of}
use Rattle.obs_time.specs.Calendar.{year_of}
use Rattle.tracklet_file.specs.declared.observation.Observation.{Observation}
use Rattle.tracklet_file.specs.Numbering.{numbered}
use Rattle.tracklet_file.specs.Observations.{later_of_track}
use Rattle.act_model.specs.declared.reply.Refusal.{Refusal}
use Rattle.act_model.specs.declared.reply.Refusal.TheVariants.{NoMemory}
use Rattle.act_model.specs.declared.seen.Seen.{Seen}
use Rattle.act_model.specs.BatchRules.{is_in_years}

-- the time lies in a year that designations have
abbrev pub is_of_years : ℤ → Bool
is_of_years t = nat_le 1925 (year_of (day_of t)) && nat_le (year_of (day_of t)) 2099

-- each observation of the file does
abbrev pub FileIsOfYears : List Observation → Type 0
FileIsOfYears observations =
    (k : ℕ) (o : Observation) → numbered observations k ≡ Some o → is_in_years o.sighting ≡ true

-- each of these does
abbrev pub AreOfYears : List Seen → Type 0
AreOfYears [] = Unit {0}
AreOfYears (seen ∷ more) = IsTrue (is_of_years seen.time) × AreOfYears more

-- the observations of a tracklet from one of them on
abbrev pub chain_from : List Observation → ℕ → Option ℕ → List ℕ
chain_from observations t None = []
chain_from observations t (Some k) = k ∷ later_of_track observations t k

-- no refusal holds; or this one is the first that does, or it is 'out of memory' in its place
abbrev pub IsFree : {A : Type 0} → Option Refusal → Result A Refusal → Type 0
IsFree refusal (Ok a) = refusal ≡ None
IsFree refusal (Err r) = (refusal ≡ Some r) ⊎ (r ≡ NoMemory)
