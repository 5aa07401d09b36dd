-- The rules for the lines of a batch, and the rulings on them: the first rule that each line breaks, and the group of
-- each line that is accepted.
use Rattle.std.specs.Prelude.{ℕ, ◌*◌, ℤ, pos, ◌+ℤ◌, ◌-ℤ◌, unsigned_abs, Bool, true, false, not, ◌&&◌, ◌||◌, ◌==◌}
use Rattle.std.specs.Prelude.{nat_le, nat_lt, int_lt, List, [], ◌∷◌, length, map, filter, filter_map, Option, Some}
use Rattle.std.specs.Prelude.{None, option_map, unwrap_or, is_none, position, Result, Ok, Err, if◌then◌else◌}
use Rattle.std.specs.List.{list_any}
use Rattle.std.specs.Option.{option_and_then}
use Rattle.std.specs.Result.{result_ok}
use Rattle.std.specs.Ordering.{int_eq, eq_by_cmp}
use Rattle.packed_names.specs.Order.{designation_cmp}
use Rattle.packed_names.specs.declared.name.Designation.{Designation}
use Rattle.packed_names.specs.declared.name.Name.{Name}
use Rattle.packed_names.specs.declared.name.Name.TheVariants as names
use Rattle.obs_time.specs.Dates.{day_of}
use Rattle.obs_time.specs.Calendar.{year_of}
use Rattle.obs_time.specs.Instants.{nanos_of_a_day}
use Rattle.obs_record.specs.declared.line.Line.{Line}
use Rattle.obs_record.specs.declared.sighting.Sighting.{Sighting}
use Rattle.obs_record.specs.declared.name.TrackName.{TrackName}
use Rattle.obs_record.specs.declared.name.TrackName.TheVariants as tracks
use Rattle.obs_record.specs.declared.rule.RuleCode.{RuleCode}
use Rattle.obs_record.specs.declared.rule.RuleCode.TheVariants.{T1, T2, T3, T4, T5, B1, B2, B3, B4, B5, B6, B7, B8, B9}
use Rattle.obs_record.specs.Short.{kept_short, same_short}
use Rattle.obs_record.specs.declared.short.Short.{Short}
use Rattle.packed_names.specs.declared.number.Number.{Number}
use Rattle.station_tables.specs.declared.kind.Kind.TheVariants as kinds
use Rattle.station_tables.specs.Rows.{TableRows}
use Rattle.tracklet_file.specs.Observations.{is_at}
use Rattle.act_model.specs.declared.ruling.Ruling.{Ruling}
use Rattle.act_model.specs.Rows.{first_row}
use Rattle.act_model.specs.Known.{KnownOffice}
use Rattle.act_model.specs.Ruling.{is_unknown_station, is_outside, is_in_row, station_serving}

-- ---- names

-- The name that an observation goes by: the number; where there is none, the designation; and where there is none
-- either, the temporary designation. Each observation has one of the three, so that the last case is met by none.
abbrev pub name_among : Option Number → Option Designation → Option Short → TrackName
name_among (Some number) prov sub = tracks.Number number
name_among None (Some designation) sub = tracks.Designation designation
name_among None None (Some short) = tracks.Sub short
name_among None None None = tracks.Sub (kept_short [])

abbrev pub name_of : Sighting → TrackName
name_of s = name_among s.perm s.prov s.sub

-- the two go by the same name
abbrev pub same_track : TrackName → TrackName → Bool
same_track (tracks.Number one) (tracks.Number other) = one.0 == other.0
same_track (tracks.Designation one) (tracks.Designation other) = eq_by_cmp designation_cmp one other
same_track (tracks.Sub one) (tracks.Sub other) = same_short one other
same_track _ _ = false

-- the name is the observer's own
abbrev pub is_sub : TrackName → Bool
is_sub (tracks.Sub sub) = true
is_sub _ = false

-- the number and the designation that a line may have
abbrev pub number_of : Sighting → Option Name
number_of s = option_map names.Number s.perm

abbrev pub designation_of : Sighting → Option Name
designation_of s = option_map names.Designation s.prov

-- ---- the rules of a line by itself and beside earlier lines

-- B1: the observation is later than the batch
abbrev pub is_after : ℤ → Sighting → Bool
is_after moment s = int_lt moment s.time

-- B2: its year is one that designations have
abbrev pub is_in_years : Sighting → Bool
is_in_years s = nat_le 1925 (year_of (day_of s.time)) && nat_le (year_of (day_of s.time)) 2099

-- B3: this office gave no such number or designation; a line without one names none
abbrev pub is_ungiven : KnownOffice → Option Name → Bool
is_ungiven known None = false
is_ungiven known (Some name) = is_none (known.stands_for name)

abbrev pub names_ungiven : KnownOffice → Sighting → Bool
names_ungiven known s = is_ungiven known (number_of s) || is_ungiven known (designation_of s)

-- B4: a live observation, or one of these earlier ones, has its station, time and position
abbrev pub stands_already : KnownOffice → List Sighting → Sighting → Bool
stands_already known earlier s =
    known.has_live s.station s.time s.ra s.dec || list_any (is_at s.station s.time s.ra s.dec) earlier

-- B5: one of these earlier ones has its station, time and name, and another position
abbrev pub is_elsewhere : Sighting → Sighting → Bool
is_elsewhere s other =
    same_short other.station s.station
    && (int_eq other.time s.time
    && (same_track (name_of other) (name_of s) && not ((other.ra == s.ra) && int_eq other.dec s.dec)))

abbrev pub stands_elsewhere : List Sighting → Sighting → Bool
stands_elsewhere earlier s = list_any (is_elsewhere s) earlier

-- B9: its number and its designation belong to two objects
abbrev pub object_of : KnownOffice → Option Name → Option Designation
object_of known name = option_and_then known.principal (option_and_then known.stands_for name)

abbrev pub are_two : Option Designation → Option Designation → Bool
are_two (Some one) (Some other) = not (eq_by_cmp designation_cmp one other)
are_two _ _ = false

abbrev pub is_of_two_objects : KnownOffice → Sighting → Bool
is_of_two_objects known s = are_two (object_of known (number_of s)) (object_of known (designation_of s))

-- The rules that an observation may break by itself, and beside the earlier ones of its batch that broke none of these,
-- in their order.
abbrev pub line_rules : KnownOffice → TableRows → ℤ → List Sighting → Sighting → List (Bool × RuleCode)
line_rules known tables moment earlier s =
    (is_unknown_station (station_serving tables s), T1)
    ∷ (is_outside (station_serving tables s), T2)
    ∷ (not (is_in_row tables kinds.Catalogue s.catalogue), T3)
    ∷ (not (is_in_row tables kinds.Band s.band), T4)
    ∷ (not (is_in_row tables kinds.Mode s.mode), T5)
    ∷ (is_after moment s, B1)
    ∷ (not (is_in_years s), B2)
    ∷ (names_ungiven known s, B3)
    ∷ (stands_already known earlier s, B4)
    ∷ (stands_elsewhere earlier s, B5)
    ∷ (is_of_two_objects known s, B9)
    ∷ []

-- the observation, or the rule that it breaks
abbrev pub unless_broken : Sighting → Option RuleCode → Result Sighting RuleCode
unless_broken s None = Ok s
unless_broken s (Some rule) = Err rule

unfoldable pub checked_reading : KnownOffice → TableRows → ℤ → List Sighting → Result Sighting RuleCode
    → Result Sighting RuleCode
checked_reading known tables moment earlier (Ok s) =
    unless_broken s (first_row (line_rules known tables moment earlier s))
checked_reading known tables moment earlier (Err rule) = Err rule

-- one more that broke no rule
abbrev pub with_passed : Result Sighting RuleCode → List Sighting → List Sighting
with_passed (Ok s) earlier = s ∷ earlier
with_passed (Err rule) earlier = earlier

-- each line with its observation, or with the first rule that it breaks by itself or beside the earlier ones
abbrev pub checked_lines : KnownOffice → TableRows → ℤ → List Sighting → List Line → List Line
checked_lines known tables moment earlier [] = []
checked_lines known tables moment earlier (line ∷ lines) =
    record line { read = checked_reading known tables moment earlier line.read }
    ∷ checked_lines known tables moment
    (with_passed (checked_reading known tables moment earlier line.read) earlier) lines

-- the observations that these lines have
abbrev pub passed_in : List Line → List Sighting
passed_in lines = filter_map (λ line. result_ok line.read) lines

-- ---- the rules of groups

-- observations from one station that go by one name form a group
abbrev pub same_group : Sighting → Sighting → Bool
same_group one other = same_track (name_of one) (name_of other) && same_short one.station other.station

-- B7: another one of the group is more than 24 hours earlier
abbrev pub is_late_after : Sighting → Sighting → Bool
is_late_after earliest s = int_lt (earliest.time +ℤ pos nanos_of_a_day) s.time

abbrev pub is_late : List Sighting → Sighting → Bool
is_late passed s = list_any (λ other. same_group other s && is_late_after other s) passed

-- what B7 leaves of an observation's group
abbrev pub left_with : List Sighting → Sighting → List Sighting
left_with passed s = filter (λ other. same_group other s && not (is_late passed other)) passed

-- the first comes before the second, and no other one of the group between them
abbrev pub are_neighbours : List Sighting → Sighting → Sighting → Bool
are_neighbours group first second =
    int_lt first.time second.time
    && not (list_any (λ other. int_lt first.time other.time && int_lt other.time second.time) group)

-- 30 degrees, in units of 1/9,000,000,000,000 degree
abbrev pub fastest_a_day : ℕ
fastest_a_day = 270000000000000

-- from the first to the second the declination changes by more than 30 degrees a day
abbrev pub is_too_fast : Sighting → Sighting → Bool
is_too_fast first second =
    nat_lt (fastest_a_day * unsigned_abs (second.time -ℤ first.time))
    (unsigned_abs (second.dec -ℤ first.dec) * nanos_of_a_day)

-- B8: two neighbours in time are too far apart
abbrev pub has_fast_pair : List Sighting → Bool
has_fast_pair group =
    list_any (λ first. list_any (λ second. are_neighbours group first second && is_too_fast first second) group) group

-- The rules that an observation may break with its group, in their order. B6: it goes by the observer's own name, alone
-- in what B7 leaves of its group; where B8 comes first, none of them is left for B6.
abbrev pub group_rules : List Sighting → Sighting → List (Bool × RuleCode)
group_rules passed s =
    (is_late passed s, B7)
    ∷ (has_fast_pair (left_with passed s), B8)
    ∷ (is_sub (name_of s) && nat_lt (length (left_with passed s)) 2, B6)
    ∷ []

unfoldable pub group_fault : List Sighting → Sighting → Option RuleCode
group_fault passed s = first_row (group_rules passed s)

-- ---- rulings

abbrev pub reading_fault : List Sighting → Result Sighting RuleCode → Option RuleCode
reading_fault passed (Ok s) = group_fault passed s
reading_fault passed (Err rule) = Some rule

-- the observations that break no rule
abbrev pub accepted_of : List Sighting → List Sighting
accepted_of passed = filter (λ s. is_none (group_fault passed s)) passed

-- of observations in the order of their lines, those that are the first of their groups; `seen` are firsts before them
abbrev pub firsts_after : List Sighting → List Sighting → List Sighting
firsts_after seen [] = []
firsts_after seen (s ∷ rest) =
    if list_any (same_group s) seen then firsts_after seen rest else s ∷ firsts_after (s ∷ seen) rest

-- the first accepted observation of each group that has one, in the order of their lines
abbrev pub firsts_of : List Sighting → List Sighting
firsts_of passed = firsts_after [] (accepted_of passed)

-- the number of a reading's group: the place of its first among the firsts, counted from 0; 0 for a line that isn't
-- accepted
abbrev pub group_among : List Sighting → Option RuleCode → Result Sighting RuleCode → ℕ
group_among firsts None (Ok s) = unwrap_or (position (same_group s) firsts) 0
group_among firsts _ _ = 0

abbrev pub ruling_among : List Sighting → Line → Ruling
ruling_among passed line =
    record {
      line = line.number;
      fault = reading_fault passed line.read;
      group = group_among (firsts_of passed) (reading_fault passed line.read) line.read;
    }

abbrev pub rulings_among : List Line → List Ruling
rulings_among checked = map (ruling_among (passed_in checked)) checked

-- The rulings on the lines of a batch that comes at this moment, where the office knows this and these are its tables:
-- one on each line, with the first rule that the line breaks.
unfoldable pub batch_rulings : KnownOffice → TableRows → ℤ → List Line → List Ruling
batch_rulings known tables moment lines = rulings_among (checked_lines known tables moment [] lines)

-- how many groups have an accepted line
abbrev pub groups_of : KnownOffice → TableRows → ℤ → List Line → ℕ
groups_of known tables moment lines = length (firsts_of (passed_in (checked_lines known tables moment [] lines)))
