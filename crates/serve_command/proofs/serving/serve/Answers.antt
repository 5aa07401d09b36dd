use Rattle.std.proofs.Common.{ap}
use Rattle.serve_command.proofs.Causes.{Undamaged, door_caused, door_faultless, disk_caused, no_usage, no_read, no_frame, no_mirror, no_count, undamaged, completes}
use Rattle.serve_command.proofs.serving.serve.Goals as goal

pub returns : goal.returns
returns g c =
    let did = c.run.ensures in
    let laws : Undamaged = record { first = c.damage.ensures.first; second = c.damage.ensures.second; force = c.damage.ensures.in_force } in
    record {
      promises = record {
        served = did.ends;
        complete = completes _ _ _ _ _ _ _ did.ends laws _ did.write_cause;
        sound = undamaged _ _ _ _ _ _ _ did.ends laws;
        disk_cause = disk_caused _ _ _ _ _ _ _ did.ends;
        door_cause = record {
          cause = door_caused _ _ _ _ _ _ _ did.ends;
          faultless = door_faultless _ _ _ _ _ _ _ did.ends (λ uncalled. ap g.G.Door.faults uncalled.2);
        };
        write_cause = (record { cause = did.write_cause; faultless = did.write_faultless }, record { counts = did.counts; stays = did.stays });
        own = (no_usage _ _ _ _ _ _ _ did.ends, no_read _ _ _ _ _ _ _ did.ends, no_frame _ _ _ _ _ _ _ did.ends, no_mirror _ _ _ _ _ _ _ did.ends, no_count _ _ _ _ _ _ _ did.ends);
      };
    }
