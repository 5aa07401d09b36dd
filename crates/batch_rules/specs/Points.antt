-- Lines as points of their groups, and what is said about a group.
use Rattle.std.specs.Prelude.{ℕ, ℤ, pos, ◌+ℤ◌, int_lt, ◌==◌, ◌||◌, List, [], ◌∷◌, Option, Some, None, slice_index_or}
use Rattle.std.specs.Prelude.{if◌then◌else◌}
use Rattle.std.specs.List.{position_or_len}
use Rattle.obs_time.specs.Instants.{nanos_of_a_day}
use Rattle.obs_record.specs.declared.sighting.Sighting.{Sighting}
use Rattle.batch_rules.specs.declared.keys.GroupKey.{GroupKey}
use Rattle.batch_rules.specs.declared.groups.Summary.{Summary}
use Rattle.batch_rules.specs.declared.points.Point.{Point}
use Rattle.batch_rules.specs.KeyTests.{same_key}
use Rattle.batch_rules.specs.Groups.{group_key, with_later}

-- the place of an observation's group among the keys of groups, or how many they are where it isn't there
abbrev pub place_of : List GroupKey → Sighting → ℕ
place_of keys s = position_or_len (same_key (group_key s)) keys

abbrev pub point_of : List GroupKey → Sighting → Point
point_of keys s = record { time = s.time; dec = s.dec; group = place_of keys s }

-- ---- what is said about groups: None of one whose lines didn't come in the order of time

-- a group with one more line, which is later than the others of its day, or no part of it
abbrev pub next_told : Option Summary → ℤ → ℤ → Option Summary
next_told None time dec = None
next_told (Some group) time dec =
    if int_lt (group.first +ℤ pos nanos_of_a_day) time || int_lt group.last time
    then Some (with_later (Some group) time dec) else None

-- what is said about the group at a place after points in the order of time, the latest first
abbrev pub told_after : List (Option Summary) → List Point → ℕ → Option Summary
told_after told [] group = slice_index_or told group None
told_after told (p ∷ earlier) group =
    if p.group == group then Some (with_later (told_after told earlier group) p.time p.dec)
    else told_after told earlier group

-- the keys of groups, each once; what is said about each group, at the same place; and the points of lines
pub record KeptGroups : Type 0 where
  pub keys : List GroupKey
  pub told : List (Option Summary)
  pub points : List Point

-- what is said about the group with a key, if it is there
abbrev pub found_at : KeptGroups → GroupKey → Option Summary
found_at groups key = slice_index_or groups.told (position_or_len (same_key key) groups.keys) None
