-- Groups of observations by their keys, and what their lines in the order of time say of a group.
use Rattle.std.specs.Prelude.{◌≤◌, ℤ, pos, ◌+ℤ◌, ◌-ℤ◌, ◌*◌, unsigned_abs, Bool, true, false, ◌&&◌, ◌||◌, nat_lt, int_lt}
use Rattle.std.specs.Prelude.{List, [], ◌∷◌, count_by, Option, Some, None, is_none, filter, Result, Ok, Err}
use Rattle.std.specs.Prelude.{if◌then◌else◌}
use Rattle.std.specs.Ordering.{int_eq}
use Rattle.packed_names.specs.Order.{survey_place}
use Rattle.packed_names.specs.declared.name.Designation.TheVariants as designations
use Rattle.obs_time.specs.Instants.{nanos_of_a_day}
use Rattle.obs_record.specs.declared.sighting.Sighting.{Sighting}
use Rattle.obs_record.specs.declared.name.TrackName.{TrackName}
use Rattle.obs_record.specs.declared.name.TrackName.TheVariants as tracks
use Rattle.obs_record.specs.declared.rule.RuleCode.{RuleCode}
use Rattle.obs_record.specs.declared.rule.RuleCode.TheVariants.{B6, B7, B8}
use Rattle.act_model.specs.BatchRules.{name_of}
use Rattle.act_model.specs.Rows.{first_row}
use Rattle.act_model.specs.BatchRules.{same_group, is_sub, fastest_a_day}
use Rattle.batch_rules.specs.declared.keys.NameKey.{NameKey}
use Rattle.batch_rules.specs.declared.keys.NameKey.TheVariants as keys
use Rattle.batch_rules.specs.declared.keys.GroupKey.{GroupKey}
use Rattle.batch_rules.specs.declared.groups.Summary.{Summary}

-- the key of a name
abbrev pub name_key : TrackName → NameKey
name_key (tracks.Number number) = keys.Number number.0
name_key (tracks.Designation (designations.Provisional p)) = keys.Provisional p.half.year p.half.index p.order
name_key (tracks.Designation (designations.Survey survey number)) = keys.Survey (survey_place survey) number
name_key (tracks.Sub short) = keys.Sub short.len (record { bytes = short.bytes })

-- the key of an observation's group
abbrev pub group_key : Sighting → GroupKey
group_key s = record { name = name_key (name_of s); len = s.station.len; bytes = record { bytes = s.station.bytes } }

-- from one time and declination to another the declination changes by more than 30 degrees a day
abbrev pub is_fast_change : ℤ → ℤ → ℤ → ℤ → Bool
is_fast_change time dec next_time next_dec =
    nat_lt (fastest_a_day * unsigned_abs (next_time -ℤ time)) (unsigned_abs (next_dec -ℤ dec) * nanos_of_a_day)

-- a group with one more observation, later than the others, by its time and declination: one that is more than 24 hours
-- after the first is no part of it
abbrev pub with_later : Option Summary → ℤ → ℤ → Summary
with_later None time dec = record { first = time; last = time; dec = dec; alone = true; fast = false }
with_later (Some group) time dec =
    if int_lt (group.first +ℤ pos nanos_of_a_day) time then group
    else record {
      first = group.first;
      last = time;
      dec = dec;
      alone = false;
      fast = group.fast || is_fast_change group.last group.dec time dec;
    }

-- a group of observations, the latest first
abbrev pub summary : List Sighting → Option Summary
summary [] = None
summary (s ∷ earlier) = Some (with_later (summary earlier) s.time s.dec)

-- the rule that an observation breaks with its group
abbrev pub fault_by : Option Summary → Sighting → Option RuleCode
fault_by None s = first_row ((is_sub (name_of s), B6) ∷ [])
fault_by (Some group) s =
    first_row (
    (int_lt (group.first +ℤ pos nanos_of_a_day) s.time, B7) ∷ (group.fast, B8)
    ∷ (is_sub (name_of s) && group.alone, B6) ∷ [])

-- ---- rulings by the summaries that were found at the keys of groups, and by the keys of groups in their order

abbrev pub reading_by : (GroupKey → Option Summary) → Result Sighting RuleCode → Option RuleCode
reading_by found (Ok s) = fault_by (found (group_key s)) s
reading_by found (Err rule) = Some rule

abbrev pub accepted_by : (GroupKey → Option Summary) → List Sighting → List Sighting
accepted_by found passed = filter (λ s. is_none (fault_by (found (group_key s)) s)) passed

-- no two observations of a group have the same time
abbrev pub AreApart : List Sighting → Type 0
AreApart passed = (s : Sighting) → count_by (λ other. same_group s other && int_eq other.time s.time) passed ≤ 1
