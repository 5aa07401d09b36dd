use Rattle.std.proofs.Common.{◌≡◌, ⊎_elim}
use Rattle.act_model.specs.Clocks.{clock_of}
use Rattle.mpc_desk.specs.Pairs.{pair}
use Rattle.command_ends.specs.Courses.{change}
use Rattle.command_ends.specs.Disks.{disk_words}
use Rattle.comets_command.specs.Runs.{Course}
use Rattle.comets_command.proofs.Complete.{known_bytes, own, disk_rises, sound_office, sound, complete}
use Rattle.comets_command.proofs.running.comets.Goals as goal

pub returns : goal.returns
returns g c =
    let on = disk_words g.D.Disk.reads g.D.Disk.leaves g.D.Disk.moment g.D.Disk.since g.D.Disk.faults in
    let ended = c.comets_all.result.0 in
    let status = ended.status in
    let did = c.comets_all.ensures in
    let ends = did.ends in
    let laws = c.damage.ensures in
    let course : Course _ = record {
      founder = c.args.founder;
      disks = change (pair c.args.disk c.args.second) (pair ended.disk ended.second);
      register = change c.args.comets c.comets_all.result.1;
      clock = change (clock_of g.C.Clock.reading g.C.Clock.last c.args.clock.now) (clock_of g.C.Clock.reading g.C.Clock.last c.comets_all.new.clock);
      run = ends.0;
      added = ended.added;
    } in
    let Uncalled : Type 0 = (c.comets_all.new.source ≡ c.args.source.now) × (c.comets_all.new.sink ≡ c.args.sink.now) × (c.comets_all.new.clock ≡ c.args.clock.now) in
    record {
      promises = record {
        run = ends.0;
        supplies = ends.1;
        texts = ends.2;
        ends = ends.3;
        complete = λ bytes history told whole office register no_read no_write no_disk no_register.
            complete on course Uncalled laws history office register c.one_session.ensures bytes (known_bytes (g.S.Source.left c.args.source.now) bytes _ told ends.1.whole) status ends.3 whole
            (λ is. ⊎_elim no_disk no_register (disk_rises on course Uncalled status ends.3 is)) (λ is. no_read (did.read_cause is)) (λ is. no_write (did.write_cause is));
        sound_office = λ history file offset office is. sound_office on course Uncalled laws history office status file offset ends.3 is;
        sound = λ history file offset office register is. sound on course Uncalled laws history office register status file offset ends.3 is;
        read_cause = (record { cause = did.read_cause; faultless = did.read_faultless }, record { counts = did.counts.0; stays = did.stays.0 });
        write_cause = (record { cause = did.write_cause; faultless = did.write_faultless }, record { counts = did.counts.1; stays = did.stays.1 });
        disk_cause = disk_rises on course Uncalled status ends.3;
        own = own on course Uncalled status ends.3;
      };
    }
