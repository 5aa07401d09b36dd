-- Keys of places that are the same.
use Rattle.std.proofs.Common.{◌≡◌, ℕ, ℤ, Bool, true, false, refl}
use Rattle.std.specs.Prelude.{◌&&◌, ◌==◌}
use Rattle.std.specs.Ordering.{int_eq}
use Rattle.std.specs.Str.{bytes_eq}
use Rattle.std.specs.Cmp.Lexicographic.{bytes_decides}
use Rattle.std.proofs.lemmas.Bool.{eqb-true, and_parts}
use Rattle.std.proofs.lemmas.Bool.Decides.{Decides-int_eq}
use Rattle.obs_record.specs.declared.short.Short.{Short}
use Rattle.obs_record.specs.declared.sighting.Sighting.{Sighting}
use Rattle.place_keys.specs.declared.place.PlaceKey.{PlaceKey}
use Rattle.place_keys.specs.Places.{key_at, place_key, same_place}
use Rattle.tracklet_file.specs.Observations.{is_at}

-- ---- keys

both : (a b c : Bool) → a && (b && c) ≡ (a && b) && c
both true b c = refl
both false b c = refl

-- keys that are the same are one key
pub same_key : (a b : PlaceKey) → same_place a b ≡ true → a ≡ b
same_key a b same =
    let first = and_parts (a.len == b.len) (bytes_eq a.bytes.bytes b.bytes.bytes && (int_eq a.time b.time && ((a.ra == b.ra) && int_eq a.dec b.dec))) same in
    let second = and_parts (bytes_eq a.bytes.bytes b.bytes.bytes) (int_eq a.time b.time && ((a.ra == b.ra) && int_eq a.dec b.dec)) first.1 in
    let third = and_parts (int_eq a.time b.time) ((a.ra == b.ra) && int_eq a.dec b.dec) second.1 in
    let fourth = and_parts (a.ra == b.ra) (int_eq a.dec b.dec) third.1 in
    let len : a.len ≡ b.len = eqb-true a.len b.len first.0 in
    let bytes : a.bytes.bytes ≡ b.bytes.bytes = (bytes_decides a.bytes.bytes b.bytes.bytes).0 second.0 in
    let time : a.time ≡ b.time = (Decides-int_eq a.time b.time).0 third.0 in
    let ra : a.ra ≡ b.ra = eqb-true a.ra b.ra fourth.0 in
    let dec : a.dec ≡ b.dec = (Decides-int_eq a.dec b.dec).0 fourth.1 in
    λ i. record { len = len i; bytes = record { bytes = bytes i }; time = time i; ra = ra i; dec = dec i }

-- an observation has the place of a key exactly where it has its station, time and position
pub same_at : (station : Short) (time : ℤ) (ra : ℕ) (dec : ℤ) (s : Sighting) → same_place (place_key s) (key_at station time ra dec) ≡ is_at station time ra dec s
same_at station time ra dec s = both (s.station.len == station.len) (bytes_eq s.station.bytes station.bytes) (int_eq s.time time && ((s.ra == ra) && int_eq s.dec dec))
