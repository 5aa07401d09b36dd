use Rattle.command_ends.specs.Disks.{disk_words}
use Rattle.export_command.proofs.ExportLemmas.{disk_rises, own, complete}
use Rattle.export_command.proofs.exporting.export.Goals as goal

pub returns : goal.returns
returns g c =
    let on = disk_words g.D.Disk.reads g.D.Disk.leaves g.D.Disk.moment g.D.Disk.since g.D.Disk.faults in
    let status = c.export_all.result.status in
    let did = c.export_all.ensures in
    record {
      promises = record {
        exports = did.ends;
        complete = λ key files history plus reads stands legal no_write no_disk.
            complete on _ _ status did.ends (λ file offset is. did.sound key files history file offset plus reads stands legal is)
            (λ is. no_disk (disk_rises on _ _ status did.ends is)) (λ is. no_write (did.write_cause is));
        sound = did.sound;
        write_cause = (record { cause = did.write_cause; faultless = did.write_faultless }, record { counts = did.counts; stays = did.stays });
        disk_cause = disk_rises on _ _ status did.ends;
        own = own on _ _ status did.ends;
      };
    }
