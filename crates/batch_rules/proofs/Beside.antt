-- Keys of places and of moments tell which rules an observation breaks beside earlier ones.
use Rattle.std.proofs.Common.{◌≡◌, ℤ, ◌≤ℤ◌, ◌<ℤ◌, Bool, true, false, not, ◌&&◌, ◌||◌, cond, List, [], ◌∷◌, Option, Some, None, refl, ap, sym, ◌∙◌, true≢false, arith}
use Rattle.std.specs.Prelude.{◌==◌}
use Rattle.std.specs.List.{list_any}
use Rattle.std.specs.Str.{bytes_eq}
use Rattle.std.specs.Ordering.{int_eq}
use Rattle.std.proofs.lemmas.Int.{ints}
use Rattle.std.proofs.lemmas.Bool.Decides.{Decides-int_eq}
use Rattle.obs_record.specs.declared.sighting.Sighting.{Sighting}
use Rattle.obs_record.specs.declared.rule.RuleCode.{RuleCode}
use Rattle.obs_record.specs.declared.rule.RuleCode.TheVariants.{B4, B5}
use Rattle.obs_record.specs.Short.{same_short}
use Rattle.tracklet_file.specs.Observations.{is_at}
use Rattle.act_model.specs.BatchRules.{name_of, same_track, is_elsewhere, stands_elsewhere}
use Rattle.place_keys.specs.Places.{place_key, same_place}
use Rattle.batch_rules.specs.Places.{moment_key}
use Rattle.batch_rules.specs.PlaceTests.{same_moment, has_place, has_moment, has_time, AreUpTo, rule_beside}
use Rattle.batch_rules.proofs.Any.{IsIn, each_in, any_same, any_none, none_in}
use Rattle.batch_rules.proofs.KeyLemmas.{same_keys}

both : (a b c : Bool) → a && (b && c) ≡ (a && b) && c
both true b c = refl
both false b c = refl

same_at : (s other : Sighting) → same_place (place_key other) (place_key s) ≡ is_at s.station s.time s.ra s.dec other
same_at s other =
    both (other.station.len == s.station.len) (bytes_eq other.station.bytes s.station.bytes) (int_eq other.time s.time && ((other.ra == s.ra) && int_eq other.dec s.dec))

places_told : (s : Sighting) (earlier : List Sighting) → has_place earlier s ≡ list_any (is_at s.station s.time s.ra s.dec) earlier
places_told s earlier = any_same (λ other. same_place (place_key other) (place_key s)) (is_at s.station s.time s.ra s.dec) earlier (each_in _ earlier (λ other there. same_at s other))

-- one that isn't at the place of another, and has its group and time, is elsewhere
elsewhere : (named from then there : Bool) → from && (then && there) ≡ false → (named && from) && then ≡ from && (then && (named && not there))
elsewhere true true true true none = absurd (true≢false none)
elsewhere true true true false none = refl
elsewhere true true false there none = refl
elsewhere true false then there none = refl
elsewhere false true true there none = refl
elsewhere false true false there none = refl
elsewhere false false then there none = refl

moments_told : (s : Sighting) (earlier : List Sighting) → list_any (is_at s.station s.time s.ra s.dec) earlier ≡ false → has_moment earlier s ≡ stands_elsewhere earlier s
moments_told s earlier none = any_same (λ other. same_moment (moment_key other) (moment_key s)) (is_elsewhere s) earlier (each_in _ earlier same)
  where
    same : (other : Sighting) → IsIn earlier other → same_moment (moment_key other) (moment_key s) ≡ is_elsewhere s other
    same other there =
        ap (λ (b : Bool). b && int_eq other.time s.time) (same_keys other s)
        ∙ elsewhere (same_track (name_of other) (name_of s)) (same_short other.station s.station) (int_eq other.time s.time) ((other.ra == s.ra) && int_eq other.dec s.dec) (none_in (is_at s.station s.time s.ra s.dec) earlier none other there)

-- ---- observations that come in the order of their times

pub up_to_more : (time later : ℤ) (earlier : List Sighting) → time ≤ℤ later → AreUpTo time earlier → AreUpTo later earlier
up_to_more time later [] more up = tt
up_to_more time later (s ∷ earlier) more up = (omega (arith, ints, up.0), up_to_more time later earlier more up.1)

-- none of those that end before a time has it
pub none_later : (time : ℤ) (s : Sighting) (earlier : List Sighting) → time <ℤ s.time → AreUpTo time earlier → has_time earlier s.time ≡ false
none_later time s [] later up = refl
none_later time s (o ∷ earlier) later up = ap (λ (b : Bool). b || has_time earlier s.time) (by (int_eq o.time s.time) refl) ∙ none_later time s earlier later up.1
  where
    by : (b : Bool) → int_eq o.time s.time ≡ b → b ≡ false
    by false is = refl
    by true is =
        let same : o.time ≡ s.time = (Decides-int_eq o.time s.time).0 is in
        let low : o.time ≤ℤ time = up.0 in
        absurd (omega (arith, ints))

module _ (s : Sighting) (earlier : List Sighting) (none : has_time earlier s.time ≡ false) where
  none_then : (p : Sighting → Bool) → ((o : Sighting) → int_eq o.time s.time ≡ false → p o ≡ false) → list_any p earlier ≡ false
  none_then p fails = any_none p earlier (each_in _ earlier (λ o there. fails o (none_in (λ other. int_eq other.time s.time) earlier none o there)))

  not_both : (a b : Bool) → a && (false && b) ≡ false
  not_both true b = refl
  not_both false b = refl

  -- one whose time none of the others has breaks no rule beside them
  pub none_at : rule_beside earlier s ≡ None
  none_at =
      ap (λ (b : Bool). cond b (Some B4) (cond (stands_elsewhere earlier s) (Some B5) None)) (none_then (is_at s.station s.time s.ra s.dec) at)
      ∙ ap (λ (b : Bool). cond b (Some B5) None) (none_then (is_elsewhere s) elsewhere_then)
    where
      at : (o : Sighting) → int_eq o.time s.time ≡ false → is_at s.station s.time s.ra s.dec o ≡ false
      at o differs =
          ap (λ (b : Bool). same_short o.station s.station && (b && ((o.ra == s.ra) && int_eq o.dec s.dec))) differs
          ∙ not_both (same_short o.station s.station) ((o.ra == s.ra) && int_eq o.dec s.dec)

      elsewhere_then : (o : Sighting) → int_eq o.time s.time ≡ false → is_elsewhere s o ≡ false
      elsewhere_then o differs =
          ap (λ (b : Bool). same_short o.station s.station && (b && (same_track (name_of o) (name_of s) && not ((o.ra == s.ra) && int_eq o.dec s.dec)))) differs
          ∙ not_both (same_short o.station s.station) (same_track (name_of o) (name_of s) && not ((o.ra == s.ra) && int_eq o.dec s.dec))

-- one that is later than all others breaks no rule beside them
pub none_beside : (time : ℤ) (s : Sighting) (earlier : List Sighting) → time <ℤ s.time → AreUpTo time earlier → rule_beside earlier s ≡ None
none_beside time s earlier later up = none_at s earlier (none_later time s earlier later up)

-- the rules that are broken, by the keys
pub told_elsewhere : (s : Sighting) (earlier : List Sighting) → has_place earlier s ≡ false → (moment : Bool) → moment ≡ has_moment earlier s → cond moment (Some B5) None ≡ rule_beside earlier s
told_elsewhere s earlier none moment timed =
    let free = sym (places_told s earlier) ∙ none in
    ap (λ (b : Bool). cond b (Some B5) None) (timed ∙ moments_told s earlier free) ∙ sym (ap (λ (b : Bool). cond b (Some B4) (cond (stands_elsewhere earlier s) (Some B5) None)) free)

pub told_B5 : (s : Sighting) (earlier : List Sighting) → has_place earlier s ≡ false → has_moment earlier s ≡ true → Some B5 ≡ rule_beside earlier s
told_B5 s earlier none timed = told_elsewhere s earlier none true (sym timed)

pub told_none : (s : Sighting) (earlier : List Sighting) → has_place earlier s ≡ false → has_moment earlier s ≡ false → None ≡ rule_beside earlier s
told_none s earlier none timed = told_elsewhere s earlier none false (sym timed)

-- the rules for a line after these two
pub beside_rows : (already other : Bool) (broken rest : Option RuleCode) (rule : RuleCode) → broken ≡ cond already (Some B4) (cond other (Some B5) None) → broken ≡ Some rule
    → Some rule ≡ cond already (Some B4) (cond other (Some B5) rest)
beside_rows true other broken rest rule told is = sym is ∙ told
beside_rows false true broken rest rule told is = sym is ∙ told
beside_rows false false broken rest rule told is = absurd (cc)

-- where neither of the two is broken, the rules after them decide
pub beside_none : (already other : Bool) (broken rest : Option RuleCode) → broken ≡ cond already (Some B4) (cond other (Some B5) None) → broken ≡ None
    → rest ≡ cond already (Some B4) (cond other (Some B5) rest)
beside_none true other broken rest told is = absurd cc
beside_none false true broken rest told is = absurd cc
beside_none false false broken rest told is = refl

-- one more observation is found, or what was found before it
pub more_told : (now same was here : Bool) → now ≡ cond same true was → was ≡ here → now ≡ same || here
more_told now true was here told before = told
more_told now false was here told before = told ∙ before
