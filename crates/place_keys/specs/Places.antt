-- The keys of places, and when two of them are the same.
use Rattle.std.specs.Prelude.{ℕ, ℤ, Bool}
use Rattle.obs_record.specs.declared.short.Short.{Short}
use Rattle.obs_record.specs.declared.sighting.Sighting.{Sighting}
use Rattle.place_keys.specs.declared.place.PlaceKey.{PlaceKey}
use Rattle.place_keys.specs.contracts.place.PlaceKeyPartialEq.TheImpl as keys

-- the key of a station, a time and a position
abbrev pub key_at : Short → ℤ → ℕ → ℤ → PlaceKey
key_at station time ra dec =
    record { len = station.len; bytes = record { bytes = station.bytes }; time = time; ra = ra; dec = dec }

-- the key of an observation's station, time and position
abbrev pub place_key : Sighting → PlaceKey
place_key s = key_at s.station s.time s.ra s.dec

abbrev pub same_place : PlaceKey → PlaceKey → Bool
same_place = (keys.ghosts).eq
