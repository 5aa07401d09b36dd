-- The numbers of groups that have an accepted line.
use Rattle.std.specs.Prelude.{◌≡◌, ◌<◌, ℕ, List, length, Result, Ok, Err, Option, Some, None, position, slice_get}
use Rattle.std.specs.Prelude.{slice_index_or}
use Rattle.obs_record.specs.declared.sighting.Sighting.{Sighting}
use Rattle.obs_record.specs.declared.rule.RuleCode.{RuleCode}
use Rattle.batch_rules.specs.declared.keys.GroupKey.{GroupKey}
use Rattle.batch_rules.specs.KeyTests.{same_key}
use Rattle.batch_rules.specs.Groups.{group_key}
use Rattle.batch_rules.specs.Points.{KeptGroups, place_of, point_of}

-- the number of each group that has one, and how many have one
pub record KeptNumbers : Type 0 where
  pub numbers : List (Option ℕ)
  pub count : ℕ

-- of the groups with these keys, those with the firsts' keys have their places among the firsts as numbers, and no
-- others have one
pub record IsNumbered (keys firsts : List GroupKey) (numbering : KeptNumbers) : Type 0 where
  pub many : length numbering.numbers ≡ length keys
  pub count : numbering.count ≡ length firsts
  pub at : (s : Sighting) → place_of keys s < length keys
      → slice_index_or numbering.numbers (place_of keys s) None ≡ position (same_key (group_key s)) firsts

-- the point at this place is that of what a line says; one that says no observation has none
abbrev pub IsNext : KeptGroups → ℕ → Result Sighting RuleCode → Type 0
IsNext groups place (Ok s) =
    (slice_get groups.points place ≡ Some (point_of groups.keys s)) × (place_of groups.keys s < length groups.keys)
IsNext groups place (Err rule) = Unit {0}

-- how many points a line has
abbrev pub points_in : Result Sighting RuleCode → ℕ
points_in (Ok s) = 1
points_in (Err rule) = 0
