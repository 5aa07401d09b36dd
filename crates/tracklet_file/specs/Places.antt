-- The places of observations: those that are found by their marks, and those that wait. The lists here stand oldest
-- first.
use Rattle.std.specs.Prelude.{◌≡◌, ◌+◌, ◌-◌, ◌/◌, ◌^◌, ◌<◌, ◌≤◌, ◌<ℤ◌, ◌≤ℤ◌, ℕ, ℤ, Bool, true, ◌&&◌}
use Rattle.std.specs.Prelude.{List, length, take, map, All, slice_index_or, max, if◌then◌else◌, ◌==◌, nat_lt, int_lt}
use Rattle.std.specs.Prelude.{Result, Ok, Err}
use Rattle.std.specs.List.{list_any}
use Rattle.std.specs.Int.{w64, cast_unsigned}
use Rattle.obs_record.specs.declared.line.Line.{Line}
use Rattle.obs_record.specs.declared.rule.RuleCode.{RuleCode}
use Rattle.obs_record.specs.declared.sighting.Sighting.{Sighting}
use Rattle.place_keys.specs.declared.place.PlaceKey.{PlaceKey}
use Rattle.place_keys.specs.Marks.{mixed}
use Rattle.place_keys.specs.Places.{place_key, same_place}
use Rattle.tracklet_file.specs.declared.observation.Observation.{Observation}

-- the observation is live, and has the place
abbrev pub counts_at : PlaceKey → Observation → Bool
counts_at key o = o.live && same_place (place_key o.sighting) key

-- a number from 1 that a place makes, by which it is looked for
abbrev pub mark_of : PlaceKey → ℕ
mark_of key = max (mixed 0 (mixed (cast_unsigned w64 key.time) (mixed key.ra (cast_unsigned w64 key.dec))) / 2 ^ 32) 1

-- what the index has for an observation: the mark of its place. An entry of the index has no mark where the observation
-- is retracted, and 0 stands there
abbrev pub mark_in : Observation → ℕ
mark_in o = if o.live then mark_of (place_key o.sighting) else 0

-- the mark that is asked for where the place of a line is looked for, by the time of the latest of all: 0 where the
-- line says no observation, or a later one
abbrev pub asked_reading : ℤ → Result Sighting RuleCode → ℕ
asked_reading latest (Ok s) = if int_lt latest s.time then 0 else mark_of (place_key s)
asked_reading latest (Err rule) = 0

abbrev pub asked : ℤ → Line → ℕ
asked latest line = asked_reading latest line.read

-- a mark that is asked for is among these; 0 is none
abbrev pub has_mark : List ℕ → ℕ → Bool
has_mark marks mark = nat_lt 0 mark && list_any (λ own. own == mark) marks

-- when it was observed
abbrev pub time_of : Observation → ℤ
time_of o = o.sighting.time

-- from this place on, each was observed later than those before it
abbrev pub AscendFrom : ℕ → List Observation → Type 0
AscendFrom first filed =
    (i j : ℕ) (d : Observation) → first ≤ i → i < j → j < length filed
    → time_of (slice_index_or filed i d) <ℤ time_of (slice_index_or filed j d)

-- what the index has for the observations that are in it, the first ones; for how many more observations room was
-- taken, and for how many more entries of the index there is room; the latest time; and whether those that wait ascend
-- in time
pub record KeptPlaces : Type 0 where
  pub marks : List ℕ
  pub room : ℕ
  pub spare : ℕ
  pub latest : ℤ
  pub ascends : Bool

-- the index has the marks of those of the first of them that are live, the others ascend in time where that is said,
-- none is later than the latest time, and there is room for those that aren't in the index, beside the room for more
pub record IsIndexed (filed : List Observation) (places : KeptPlaces) : Type 0 where
  pub within : length places.marks ≤ length filed
  pub marks_are : places.marks ≡ map mark_in (take (length places.marks) filed)
  pub in_order : places.ascends ≡ true → AscendFrom (length places.marks) filed
  pub up_to : All (λ o. time_of o ≤ℤ places.latest) filed
  pub enough : places.room + (length filed - length places.marks) ≤ places.spare
