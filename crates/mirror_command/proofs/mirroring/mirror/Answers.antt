use Rattle.mpc_desk.specs.Pairs.{pair}
use Rattle.command_ends.specs.Courses.{sink_words, change}
use Rattle.command_ends.specs.Disks.{disk_words}
use Rattle.mirror_store.specs.Words.{mirror_words}
use Rattle.mirror_command.specs.Ends.{Course}
use Rattle.mirror_command.proofs.MirrorLemmas.{disk_rises, own, complete}
use Rattle.mirror_command.proofs.mirroring.mirror.Goals as goal

pub returns : goal.returns
returns g c =
    let write = sink_words g.K.Sink.taken g.K.Sink.faults g.K.Sink.is_open in
    let on = disk_words g.D.Disk.reads g.D.Disk.leaves g.D.Disk.moment g.D.Disk.since g.D.Disk.faults in
    let kept = mirror_words g.M.Mirror.told g.M.Mirror.faults in
    let ended = c.mirror_all.result in
    let course : Course _ _ _ = record {
      sink = change c.args.sink.now c.mirror_all.new.sink;
      disks = change (pair c.args.disk c.args.second) (pair ended.disk ended.second);
      mirror = change c.args.mirror.now c.mirror_all.new.mirror;
      added = ended.added;
    } in
    let did = c.mirror_all.ensures in
    record {
      promises = record {
        mirrors = did.ends;
        complete = λ key files history plus read stands legal no_write no_disk no_mirror.
            complete write on kept course c.one_history.ensures.both files history read stands ended.status did.ends
            (λ file offset is. did.sound key files history file offset plus read stands legal is)
            (λ is. no_disk (disk_rises write on kept course ended.status did.ends is)) (λ is. no_write (did.write_cause is)) (λ is. no_mirror (did.mirror_cause is));
        sound = did.sound;
        write_cause = (record { cause = did.write_cause; faultless = did.write_faultless }, record { counts = did.write_counts; stays = did.stays });
        disk_cause = disk_rises write on kept course ended.status did.ends;
        mirror_cause = record { cause = did.mirror_cause; faultless = did.mirror_faultless };
        mirror_counts = did.mirror_counts;
        own = own write on kept course ended.status did.ends;
      };
    }
