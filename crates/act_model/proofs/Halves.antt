-- The half-month in which an object is discovered is one that has designations.
use Rattle.std.proofs.Common.{◌≡◌, ℕ, zero, suc, ℤ, ◌+◌, ◌-◌, ◌*◌, ◌<◌, ◌≤◌, List, [], ◌∷◌, ◌++◌, Bool, true, false, cond, Option, Some, None, refl, subst, arith}
use Rattle.std.specs.Prelude.{◌&&◌, nat_le, filter_map, flat_map}
use Rattle.std.specs.List.{cons_option}
use Rattle.std.specs.Int.Signed.{le_z}
use Rattle.std.proofs.lemmas.Bool.{and_parts, leb-true}
use Rattle.packed_names.specs.Ranges.{IsHalfMonth}
use Rattle.obs_time.specs.Calendar.{last_begun, year_of, month_of, date_of_day}
use Rattle.obs_time.specs.Dates.{day_number, day_of}
use Rattle.tracklet_file.specs.declared.observation.Observation.{Observation}
use Rattle.tracklet_file.specs.Numbering.{numbered}
use Rattle.tracklet_file.specs.Observations.{observations_of}
use Rattle.act_model.specs.declared.seen.Seen.{Seen}
use Rattle.act_model.specs.BatchRules.{is_in_years}
use Rattle.act_model.specs.Discoveries.{seen_if_live, seen_at, seen_of, seen_in, is_sooner, sooner, earliest, half_of}

-- ---- half-months

last_within : (begins : ℕ → ℤ) (day : ℤ) (first more : ℕ) → last_begun begins day first more ≤ first + more
unfolding last_begun
last_within begins day first zero = omega arith
last_within begins day first (suc more) = by (le_z (begins (first + suc more)) day) (last_within begins day first more)
  where
    by : (b : Bool) → last_begun begins day first more ≤ first + more → cond b (first + suc more) (last_begun begins day first more) ≤ first + suc more
    by true rest = omega arith
    by false rest = omega arith

month_within : (day : ℤ) → month_of day ≤ 12
unfolding month_of
month_within day = last_within (λ month. day_number (year_of day) month 1) day 1 11

index_within : (month : ℕ) (b : Bool) → month ≤ 12 → 2 * (month - 1) + cond b 0 1 < 24
index_within month true within = omega arith
index_within month false within = omega arith

-- the year of a moment is one that designations have
abbrev pub is_year : ℤ → Bool
is_year t = nat_le 1925 (year_of (day_of t)) && nat_le (year_of (day_of t)) 2099

half_is_one : (t : ℤ) → is_year t ≡ true → IsHalfMonth (half_of t)
unfolding half_of date_of_day
half_is_one t is =
    let parts = and_parts _ _ is in
    let date = date_of_day (day_of t) in
    record {
      year_from = leb-true 1925 (year_of (day_of t)) parts.0;
      year_to = leb-true (year_of (day_of t)) 2099 parts.1;
      index = index_within (month_of (day_of t)) (nat_le date.day 15) (month_within (day_of t));
    }

-- ---- live observations

abbrev pub AreSeenInYears : List Seen → Type 0
AreSeenInYears [] = Unit {0}
AreSeenInYears (seen ∷ more) = (is_year seen.time ≡ true) × AreSeenInYears more

seen_both : (one other : List Seen) → AreSeenInYears one → AreSeenInYears other → AreSeenInYears (one ++ other)
seen_both [] other first second = second
seen_both (seen ∷ more) other first second = (first.0, seen_both more other first.1 second)

module _ (observations : List Observation) (years : (k : ℕ) (o : Observation) → numbered observations k ≡ Some o → is_in_years o.sighting ≡ true) where
  seen_these : (ks : List ℕ) → AreSeenInYears (filter_map (seen_at observations) ks)
  seen_these [] = tt
  seen_these (k ∷ ks) = by (numbered observations k) refl (seen_these ks)
    where
      where_live : (b : Bool) (o : Observation) → is_in_years o.sighting ≡ true → AreSeenInYears (filter_map (seen_at observations) ks)
          → AreSeenInYears (cons_option (cond b (Some (record { number = k; time = o.sighting.time })) None) (filter_map (seen_at observations) ks))
      where_live true o is rest = (is, rest)
      where_live false o is rest = rest

      by : (o : Option Observation) → numbered observations k ≡ o → AreSeenInYears (filter_map (seen_at observations) ks) → AreSeenInYears (cons_option (seen_if_live k o) (filter_map (seen_at observations) ks))
      by None is rest = rest
      by (Some o) is rest = where_live o.live o (years k o is) rest

  seen_tracklets : (ts : List ℕ) → AreSeenInYears (seen_in observations ts)
  seen_tracklets [] = tt
  seen_tracklets (t ∷ ts) = seen_both (seen_of observations t) (flat_map (seen_of observations) ts) (seen_these (observations_of observations t)) (seen_tracklets ts)

year_either : (b : Bool) (one other : Seen) → is_year one.time ≡ true → is_year other.time ≡ true → is_year (cond b one other).time ≡ true
year_either true one other first second = first
year_either false one other first second = second

year_earliest : (first : Seen) (more : List Seen) → AreSeenInYears (first ∷ more) → is_year (earliest first more).time ≡ true
year_earliest first [] all = all.0
year_earliest first (next ∷ more) all = year_earliest (sooner first next) more (year_either (is_sooner next first) next first all.1.0 all.0, all.1.1)

-- an object is discovered in a half-month that has designations
pub discovered_in : (observations : List Observation) (ts : List ℕ) (first : Seen) (more : List Seen) → ((k : ℕ) (o : Observation) → numbered observations k ≡ Some o → is_in_years o.sighting ≡ true)
    → seen_in observations ts ≡ first ∷ more → IsHalfMonth (half_of (earliest first more).time)
discovered_in observations ts first more years is =
    half_is_one (earliest first more).time (year_earliest first more (subst AreSeenInYears is (seen_tracklets observations years ts)))
