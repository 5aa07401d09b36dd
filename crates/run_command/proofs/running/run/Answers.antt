use Rattle.command_ends.specs.Disks.{disk_words}
use Rattle.run_command.proofs.Complete.{known_bytes, own, disk_rises, sound, complete}
use Rattle.run_command.proofs.running.run.Goals as goal

pub returns : goal.returns
returns g c =
    let on = disk_words g.D.Disk.reads g.D.Disk.leaves g.D.Disk.moment g.D.Disk.since g.D.Disk.faults in
    let status = c.run_all.result.status in
    let did = c.run_all.ensures in
    let ends = did.ends in
    record {
      promises = record {
        run = ends.0;
        supplies = ends.1;
        texts = ends.2;
        ends = ends.3;
        complete = λ bytes files history told whole reads stands legal no_read no_write no_disk.
            complete on _ _ c.damage.ensures.first c.damage.ensures.second c.damage.ensures.in_force files history reads stands legal c.one_session.ensures bytes (known_bytes _ bytes _ told ends.1.whole) status ends.3 whole
            (λ is. no_disk (disk_rises on _ _ status ends.3 is)) (λ is. no_read (did.read_cause is)) (λ is. no_write (did.write_cause is));
        sound = λ files history file offset reads stands legal is. sound on _ _ c.damage.ensures.first c.damage.ensures.second c.damage.ensures.in_force files history reads stands legal status file offset ends.3 is;
        read_cause = (record { cause = did.read_cause; faultless = did.read_faultless }, record { counts = did.counts.0; stays = did.stays.0 });
        write_cause = (record { cause = did.write_cause; faultless = did.write_faultless }, record { counts = did.counts.1; stays = did.stays.1 });
        disk_cause = disk_rises on _ _ status ends.3;
        own = own on _ _ status ends.3;
      };
    }
