-- The keys of moments.
use Rattle.obs_record.specs.declared.sighting.Sighting.{Sighting}
use Rattle.batch_rules.specs.declared.places.MomentKey.{MomentKey}
use Rattle.batch_rules.specs.Groups.{group_key}

-- the key of an observation's group and time
abbrev pub moment_key : Sighting → MomentKey
moment_key s = record { group = group_key s; time = s.time }
