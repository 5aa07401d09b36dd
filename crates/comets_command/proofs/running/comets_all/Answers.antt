use Rattle.std.proofs.Common.{◌≡◌, ◌-◌, length, refl, sym, subst, ◌∙◌, arith}
use Rattle.act_model.specs.Clocks.{clock_of}
use Rattle.act_model.specs.Deeds.{deeds}
use Rattle.frame_service.specs.Exchanges.{attending_of}
use Rattle.mpc_desk.specs.Pairs.{pair}
use Rattle.command_ends.specs.declared.status.Status.{Status}
use Rattle.command_ends.specs.Courses.{change}
use Rattle.command_ends.specs.Disks.{disk_words}
use Rattle.command_ends.specs.Reading.{reader}
use Rattle.comets_command.specs.Opening.{EndsUnbegun}
use Rattle.comets_command.specs.Runs.{Course, Ends}
use Rattle.comets_command.specs.Terms.{terms_at}
use Rattle.comets_command.proofs.Served.{turns_of}
use Rattle.comets_command.proofs.Closings.{finish_mends, read_failed, write_failed}
use Rattle.comets_command.proofs.RunLemmas.{keeps_read, terms_opened, takes_between, fewer_before, served_ends, nothing_served, office_shut, register_shut}
use Rattle.comets_command.proofs.running.comets_all.Goals as goal

pub returns-in_default-clause-ends : goal.returns-in_default-clause-ends
returns-in_default-clause-ends g c =
    let on = disk_words g.D.Disk.reads g.D.Disk.leaves g.D.Disk.moment g.D.Disk.since g.D.Disk.faults in
    let disks = change (pair c.args.disk c.args.second) (pair c.not_begun.result.disk c.not_begun.result.second) in
    let register = change c.args.comets c.args.comets in
    let clock = clock_of g.C.Clock.reading g.C.Clock.last c.args.clock.now in
    let Uncalled : Type 0 = (c.args.source.now ≡ c.args.source.now) × (c.args.sink.now ≡ c.args.sink.now) × (c.args.clock.now ≡ c.args.clock.now) in
    nothing_served on c.args.founder disks register clock c.not_begun.result.added g.S.Source.left g.S.Source.gives c.args.source.now (g.K.Sink.taken c.args.sink.now) Uncalled (refl, refl, refl) c.not_begun.result.status
    (office_shut on c.args.founder disks register clock c.not_begun.result.added c.not_begun.result.status (c.not_begun.ensures.no_memory reader refl) refl)

pub returns-in-Err-clause-ends : goal.returns-in-Err-clause-ends
returns-in-Err-clause-ends g c =
    let on = disk_words g.D.Disk.reads g.D.Disk.leaves g.D.Disk.moment g.D.Disk.since g.D.Disk.faults in
    let disks = change (pair c.args.disk c.args.second) (pair c.in-Err.ended.disk c.in-Err.ended.second) in
    let register = change c.args.comets c.args.comets in
    let clock = clock_of g.C.Clock.reading g.C.Clock.last c.args.clock.now in
    let Uncalled : Type 0 = (c.args.source.now ≡ c.args.source.now) × (c.args.sink.now ≡ c.args.sink.now) × (c.args.clock.now ≡ c.args.clock.now) in
    nothing_served on c.args.founder disks register clock c.in-Err.ended.added g.S.Source.left g.S.Source.gives c.args.source.now (g.K.Sink.taken c.args.sink.now) Uncalled (refl, refl, refl) c.in-Err.ended.status
    (office_shut on c.args.founder disks register clock c.in-Err.ended.added c.in-Err.ended.status c.in-Err.ensures.unopened refl)

pub returns-in-Err-open_register-clause-ends : goal.returns-in-Err-open_register-clause-ends
returns-in-Err-open_register-clause-ends g c =
    let on = disk_words g.D.Disk.reads g.D.Disk.leaves g.D.Disk.moment g.D.Disk.since g.D.Disk.faults in
    let ended = c.end_reading.result in
    let office = c.in-Ok-open_to_read.office in
    let history = office.chained.state.settled in
    let start = pair c.args.disk c.args.second in
    let now = pair ended.disk ended.second in
    let register = change c.args.comets c.in-Err-open_register.comets in
    let clock = clock_of g.C.Clock.reading g.C.Clock.last c.args.clock.now in
    let Uncalled : Type 0 = (c.args.source.now ≡ c.args.source.now) × (c.args.sink.now ≡ c.args.sink.now) × (c.args.clock.now ≡ c.args.clock.now) in
    let kept = keeps_read on start now office office ended.added refl c.end_reading.ensures.added c.end_reading.ensures.keeps c.in-Ok-open_to_read.ensures.opens in
    let shut = subst (λ (s : Status). EndsUnbegun on c.args.founder (deeds history) c.args.comets c.in-Err-open_register.comets s) (sym c.end_reading.ensures.status) c.in-Err-open_register.ensures.unbegun in
    nothing_served on c.args.founder (change start now) register clock ended.added g.S.Source.left g.S.Source.gives c.args.source.now (g.K.Sink.taken c.args.sink.now) Uncalled (refl, refl, refl) ended.status
    (register_shut on c.args.founder (change start now) register clock ended.added ended.status history kept shut c.end_reading.ensures.added)

pub overflow_sub-added : goal.overflow_sub-added
overflow_sub-added g c =
    let on = disk_words g.D.Disk.reads g.D.Disk.leaves g.D.Disk.moment g.D.Disk.since g.D.Disk.faults in
    let laws = c.registers.ensures in
    let office = c.in-Ok-open_to_read.office in
    let opened = c.in-Ok-open_register.register in
    let opens = c.in-Ok-open_register.ensures.opens in
    let terms = terms_at c.args.founder office.chained.state.settled in
    let left = c.apart-office.result.1 in
    let s = c.serve-stop.ensures.stops in
    let t = turns_of laws.readings on terms s.1 (attending_of g.C.Clock.reading g.C.Clock.last c.new-front.result c.args.clock.now) (attending_of g.C.Clock.reading g.C.Clock.last c.serve-stop.new.attendant c.serve-stop.new.clock)
    (terms_opened on c.args.founder office c.args.comets opened opens c.new-front.result c.new-front.ensures.office c.new-front.ensures.register) s.5 in
    let takes = takes_between on terms t.turns c.new-front.result.register c.serve-stop.new.attendant.register opened left c.new-front.ensures.register c.apart-office.ensures.register t.takes in
    let mends = finish_mends on left c.finish-status.new.register c.serve-stop.result c.finish-status.result c.finish-status.ensures in
    let fewer = fewer_before laws on g.met.D.Disk.only_now terms c.args.comets opened left t.turns opens takes c.finish-status.new.register mends in
    let after = c.entries.ensures in
    let before = c.entries-before.ensures in
    omega (arith, fewer, after, before)

pub returns-clause-ends : goal.returns-clause-ends
returns-clause-ends g c =
    let on = disk_words g.D.Disk.reads g.D.Disk.leaves g.D.Disk.moment g.D.Disk.since g.D.Disk.faults in
    let laws = c.registers.ensures in
    let office = c.in-Ok-open_to_read.office in
    let history = office.chained.state.settled in
    let opened = c.in-Ok-open_register.register in
    let opens = c.in-Ok-open_register.ensures.opens in
    let terms = terms_at c.args.founder history in
    let left = c.apart-office.result.1 in
    let last = c.finish-status.new.register in
    let ended = c.end_reading-2.result in
    let s = c.serve-stop.ensures.stops in
    let t = turns_of laws.readings on terms s.1 (attending_of g.C.Clock.reading g.C.Clock.last c.new-front.result c.args.clock.now) (attending_of g.C.Clock.reading g.C.Clock.last c.serve-stop.new.attendant c.serve-stop.new.clock)
    (terms_opened on c.args.founder office c.args.comets opened opens c.new-front.result c.new-front.ensures.office c.new-front.ensures.register) s.5 in
    let takes = takes_between on terms t.turns c.new-front.result.register c.serve-stop.new.attendant.register opened left c.new-front.ensures.register c.apart-office.ensures.register t.takes in
    let start = pair c.args.disk c.args.second in
    let now = pair ended.disk ended.second in
    let same : c.apart-office.result.0 ≡ office = c.apart-office.ensures.office ∙ t.office ∙ c.new-front.ensures.office in
    let kept = keeps_read on start now office c.apart-office.result.0 ended.added same c.end_reading-2.ensures.added c.end_reading-2.ensures.keeps c.in-Ok-open_to_read.ensures.opens in
    let after = c.entries.ensures in
    let before = c.entries-before.ensures in
    let counted : c.entries.result - c.entries-before.result ≡ length last.state.settled - length opened.state.settled = omega (arith, after, before) in
    let course : Course _ = record {
      founder = c.args.founder;
      disks = change start now;
      register = change c.args.comets c.close.result;
      clock = change (clock_of g.C.Clock.reading g.C.Clock.last c.args.clock.now) (clock_of g.C.Clock.reading g.C.Clock.last c.serve-stop.new.clock);
      run = s.0;
      added = c.entries.result - c.entries-before.result;
    } in
    let Uncalled : Type 0 = (c.serve-stop.new.source ≡ c.args.source.now) × (c.serve-stop.new.sink ≡ c.args.sink.now) × (c.serve-stop.new.clock ≡ c.args.clock.now) in
    let ends = served_ends laws on g.met.D.Disk.only_now course history kept opened left last t.turns opens takes c.close.ensures counted Uncalled c.serve-stop.result c.finish-status.result (s.1, s.4, t.are) c.finish-status.ensures in
    (s.0, s.2, s.3, subst (λ (x : Status). Ends on course Uncalled x) (sym c.end_reading-2.ensures.status) ends)

pub returns-clause-read_faultless : goal.returns-clause-read_faultless
returns-clause-read_faultless g c = λ never.
    let on = disk_words g.D.Disk.reads g.D.Disk.leaves g.D.Disk.moment g.D.Disk.since g.D.Disk.faults in
    c.serve-stop.ensures.read_faultless
    (λ is. never (c.end_reading-2.ensures.status ∙ read_failed on c.apart-office.result.1 c.finish-status.new.register c.serve-stop.result c.finish-status.result c.finish-status.ensures is))

pub returns-clause-write_faultless : goal.returns-clause-write_faultless
returns-clause-write_faultless g c = λ never.
    let on = disk_words g.D.Disk.reads g.D.Disk.leaves g.D.Disk.moment g.D.Disk.since g.D.Disk.faults in
    c.serve-stop.ensures.write_faultless
    (λ is. never (c.end_reading-2.ensures.status ∙ write_failed on c.apart-office.result.1 c.finish-status.new.register c.serve-stop.result c.finish-status.result c.finish-status.ensures is))
