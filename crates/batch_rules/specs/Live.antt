-- Whether a live observation has the place of another.
use Rattle.std.specs.Prelude.{Bool}
use Rattle.obs_record.specs.declared.sighting.Sighting.{Sighting}
use Rattle.act_model.specs.Known.{KnownOffice}

-- a live observation has the station, the time and the position of this one
abbrev pub is_live_at : KnownOffice → Sighting → Bool
is_live_at known s = known.has_live s.station s.time s.ra s.dec
