-- What is found of the earlier lines of a batch, and lines that were checked beside them.
use Rattle.std.specs.Prelude.{◌≡◌, ℤ, List, map, Result, Ok, Err}
use Rattle.std.specs.Borrow.{Bor}
use Rattle.std.specs.List.{list_any}
use Rattle.std.specs.Ordering.{int_eq}
use Rattle.indexmap.specs.IndexSet.{contains}
use Rattle.obs_record.specs.declared.sighting.Sighting.{Sighting}
use Rattle.obs_record.specs.declared.rule.RuleCode.{RuleCode}
use Rattle.obs_record.specs.declared.line.Line.{Line}
use Rattle.place_keys.specs.Places.{place_key, same_place}
use Rattle.batch_rules.specs.declared.checking.Checked.{Checked}
use Rattle.batch_rules.specs.declared.index.Index.{Index}
use Rattle.batch_rules.specs.Places.{moment_key}
use Rattle.batch_rules.specs.PlaceTests.{same_moment, has_place, has_moment, has_time}

-- the observations that references point to
abbrev pub pointed_sightings : List (Bor Sighting) → List Sighting
pointed_sightings = map (λ s. s.now)

-- an index has the places and the moments of these observations, and no others
pub record Finds (index : Index) (earlier : List Sighting) : Type 0 where
  pub place : (s : Sighting) → contains same_place index.places (place_key s) ≡ has_place earlier s
  pub moment : (s : Sighting) → contains same_moment index.moments (moment_key s) ≡ has_moment earlier s

-- these are the times of the observations, and no others
pub record HasTimes (times : List ℤ) (earlier : List Sighting) : Type 0 where
  pub at : (time : ℤ) → list_any (λ own. int_eq own time) times ≡ has_time earlier time

-- what a line comes to once it is checked, without the reference
abbrev pub reading_of : Result (Bor Sighting) RuleCode → Result Sighting RuleCode
reading_of (Ok s) = Ok s.now
reading_of (Err rule) = Err rule

abbrev pub line_of : Checked → Line
line_of checked = record { number = checked.number; read = reading_of checked.read }
