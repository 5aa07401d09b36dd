-- Worked examples: the rules of groups at their edges, computed.
use Rattle.std.proofs.Common.{◌≡◌, ℕ, ◌+◌, ◌*◌, pos, [], ◌∷◌, replicate, Some, None, refl}
use Rattle.obs_record.specs.declared.short.Short.{Short}
use Rattle.obs_record.specs.declared.sighting.Coded.TheVariants.{Nothing}
use Rattle.obs_record.specs.declared.sighting.Shape.TheVariants.{Psv}
use Rattle.obs_record.specs.declared.sighting.Sighting.{Sighting}
use Rattle.obs_record.specs.declared.rule.RuleCode.TheVariants.{B6, B7, B8}
use Rattle.act_model.specs.BatchRules.{group_fault, fastest_a_day}
use Rattle.obs_time.specs.Instants.{nanos_of_a_day}

-- a short text of one byte
abbrev text : ℕ → Short
text byte = record { len = 1; bytes = byte ∷ replicate 11 0 }

-- an observation under a name of the observer's own, from a station, at a time and a declination
abbrev seen : ℕ → ℕ → ℕ → ℕ → Sighting
seen sub station time dec =
    record {
      perm = None;
      prov = None;
      sub = Some (text sub);
      station = text station;
      time = pos time;
      ra = 5;
      dec = pos dec;
      mag = None;
      band = Nothing;
      mode = Nothing;
      catalogue = Nothing;
      note1 = 32;
      shape = Psv 0;
    }

abbrev hour : ℕ
hour = 3600000000000

-- one line alone, two lines, and one from another station
alone : group_fault (seen 65 1 0 0 ∷ []) (seen 65 1 0 0) ≡ Some B6
unfolding group_fault
alone = refl

two : group_fault (seen 65 1 0 0 ∷ seen 65 1 hour 0 ∷ []) (seen 65 1 0 0) ≡ None
unfolding group_fault
two = refl

two_stations : group_fault (seen 65 1 0 0 ∷ seen 65 2 hour 0 ∷ []) (seen 65 1 0 0) ≡ Some B6
unfolding group_fault
two_stations = refl

-- 24 hours, and a nanosecond more
one_day : group_fault (seen 65 1 nanos_of_a_day 0 ∷ seen 65 1 0 0 ∷ []) (seen 65 1 nanos_of_a_day 0) ≡ None
unfolding group_fault
one_day = refl

past_a_day : group_fault (seen 65 1 (nanos_of_a_day + 1) 0 ∷ seen 65 1 0 0 ∷ []) (seen 65 1 (nanos_of_a_day + 1) 0) ≡ Some B7
unfolding group_fault
past_a_day = refl

left_alone : group_fault (seen 65 1 (nanos_of_a_day + 1) 0 ∷ seen 65 1 0 0 ∷ []) (seen 65 1 0 0) ≡ Some B6
unfolding group_fault
left_alone = refl

-- 30 degrees a day, and a unit more: both lines break it
thirty : group_fault (seen 65 1 0 0 ∷ seen 65 1 nanos_of_a_day fastest_a_day ∷ []) (seen 65 1 0 0) ≡ None
unfolding group_fault
thirty = refl

past_thirty : group_fault (seen 65 1 0 0 ∷ seen 65 1 nanos_of_a_day (fastest_a_day + 1) ∷ []) (seen 65 1 0 0) ≡ Some B8
unfolding group_fault
past_thirty = refl

past_thirty_too : group_fault (seen 65 1 0 0 ∷ seen 65 1 nanos_of_a_day (fastest_a_day + 1) ∷ []) (seen 65 1 nanos_of_a_day (fastest_a_day + 1)) ≡ Some B8
unfolding group_fault
past_thirty_too = refl

-- of three lines the one in the middle is too late, and the others stand
middle_late : group_fault (seen 65 1 0 0 ∷ seen 65 1 (25 * hour) 0 ∷ seen 65 1 hour 0 ∷ []) (seen 65 1 (25 * hour) 0) ≡ Some B7
unfolding group_fault
middle_late = refl

others_stand : group_fault (seen 65 1 0 0 ∷ seen 65 1 (25 * hour) 0 ∷ seen 65 1 hour 0 ∷ []) (seen 65 1 hour 0) ≡ None
unfolding group_fault
others_stand = refl
