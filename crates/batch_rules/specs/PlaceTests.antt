-- When two keys of places or of moments are the same, which observations have them, and the rules that an observation
-- breaks beside earlier ones.
use Rattle.std.specs.Prelude.{Bool, List, [], ◌∷◌, ℤ, ◌≤ℤ◌, Option}
use Rattle.std.specs.List.{list_any}
use Rattle.std.specs.Ordering.{int_eq}
use Rattle.obs_record.specs.declared.sighting.Sighting.{Sighting}
use Rattle.obs_record.specs.declared.rule.RuleCode.{RuleCode}
use Rattle.obs_record.specs.declared.rule.RuleCode.TheVariants.{B4, B5}
use Rattle.tracklet_file.specs.Observations.{is_at}
use Rattle.act_model.specs.Rows.{first_row}
use Rattle.act_model.specs.BatchRules.{stands_elsewhere}
use Rattle.batch_rules.specs.declared.places.MomentKey.{MomentKey}
use Rattle.batch_rules.specs.contracts.places.MomentKeyPartialEq.TheImpl as moment_keys
use Rattle.place_keys.specs.Places.{place_key, same_place}
use Rattle.batch_rules.specs.Places.{moment_key}

abbrev pub same_moment : MomentKey → MomentKey → Bool
same_moment = (moment_keys.ghosts).eq

-- one of these observations has the place of this one
abbrev pub has_place : List Sighting → Sighting → Bool
has_place earlier s = list_any (λ other. same_place (place_key other) (place_key s)) earlier

-- one of these observations is of the group of this one, and has its time
abbrev pub has_moment : List Sighting → Sighting → Bool
has_moment earlier s = list_any (λ other. same_moment (moment_key other) (moment_key s)) earlier

-- one of these observations has this time
abbrev pub has_time : List Sighting → ℤ → Bool
has_time earlier time = list_any (λ other. int_eq other.time time) earlier

-- none of these observations is after a time
abbrev pub AreUpTo : ℤ → List Sighting → Type 0
AreUpTo time [] = Unit {0}
AreUpTo time (s ∷ earlier) = (s.time ≤ℤ time) × AreUpTo time earlier

-- B4 where one of these has this one's station, time and position, B5 where one has its station, time and name, and
-- another position
abbrev pub rule_beside : List Sighting → Sighting → Option RuleCode
rule_beside earlier s =
    first_row ((list_any (is_at s.station s.time s.ra s.dec) earlier, B4) ∷ (stands_elsewhere earlier s, B5) ∷ [])
