use Rattle.std.proofs.Common.{◌≡◌, ◌-◌, length, refl, sym, subst, arith}
use Rattle.mpc_desk.specs.Pairs.{pair}
use Rattle.mpc_desk.specs.PairLaws.{same_pair}
use Rattle.command_ends.specs.Disks.{disk_words}
use Rattle.command_ends.specs.Opening.{journal_bytes, Opens}
use Rattle.command_ends.specs.Parts.{of_parts, put_together}
use Rattle.run_command.specs.declared.answering.FrontDesk.{FrontDesk}
use Rattle.run_command.proofs.Laws.{OfficeLaws}
use Rattle.run_command.proofs.Served.{turns_of}
use Rattle.run_command.proofs.Closings.{finish_mends, read_failed, write_failed}
use Rattle.run_command.proofs.RunLemmas.{fewer_before, served_ends, nothing_served}
use Rattle.run_command.proofs.running.run_all.Goals as goal

pub returns-in_default-clause-ends : goal.returns-in_default-clause-ends
returns-in_default-clause-ends g c =
    nothing_served _ _ _ _ (disk_words g.D.Disk.reads g.D.Disk.leaves g.D.Disk.moment g.D.Disk.since g.D.Disk.faults) c.args.founder (pair c.args.disk c.args.second) (pair c.not_begun.result.disk c.not_begun.result.second) _ _ (refl, refl, refl) c.not_begun.result.added c.not_begun.result.status
    (c.not_begun.ensures.no_memory c.args.founder refl)

pub returns-in-Err-clause-ends : goal.returns-in-Err-clause-ends
returns-in-Err-clause-ends g c =
    nothing_served _ _ _ _ (disk_words g.D.Disk.reads g.D.Disk.leaves g.D.Disk.moment g.D.Disk.since g.D.Disk.faults) c.args.founder (pair c.args.disk c.args.second) (pair c.in-Err.ended.disk c.in-Err.ended.second) _ _ (refl, refl, refl) c.in-Err.ended.added c.in-Err.ended.status
    c.in-Err.ensures.unopened

pub overflow_sub-added : goal.overflow_sub-added
overflow_sub-added g c =
    let on = (disk_words g.D.Disk.reads g.D.Disk.leaves g.D.Disk.moment g.D.Disk.since g.D.Disk.faults) in
    let laws : OfficeLaws = record {
      keeps = record {
        legal_step = c.histories_are_legal.ensures.step;
        legal_conduct = c.histories_are_legal.ensures.conduct;
        acknowledged = c.acknowledged_acts_are_kept.ensures;
        kept = c.kept_replies_stay.ensures.entry;
      };
      readings = c.readings_go_on.ensures;
      grow = c.histories_grow.ensures;
      once = c.numbers_once.ensures;
      legal_once = c.legal_numbers_once.ensures;
      places = c.one_place.ensures;
      rows = c.unbroken_rows.ensures;
      numbers = c.unbroken_numbers.ensures;
      lines = c.lines_are_added.ensures;
      rests = c.no_faults.ensures.settled;
      steps = c.no_faults.ensures.stepped;
    } in
    let office = of_parts c.apart.result.0 c.apart.result.1 in
    let start = pair c.args.disk c.args.second in
    let opens = subst (λ o. Opens on c.args.founder start o) (sym (put_together c.in-Ok-open_desk.desk _ _ c.apart.ensures.first c.apart.ensures.chained)) c.in-Ok-open_desk.ensures.opens in
    let s = c.serve-stop.ensures.stops in
    let t = turns_of laws.readings on c.args.founder journal_bytes (λ (a : FrontDesk _). a.desk) s.1 _ _ opens.founder_is opens.limit_is s.5 in
    let mends = finish_mends on c.serve-stop.new.attendant.desk c.finish-status.new.desk c.serve-stop.result c.finish-status.result c.finish-status.ensures in
    let fewer = fewer_before laws on g.met.D.Disk.only_now c.args.founder start office c.serve-stop.new.attendant.desk t.turns opens t.takes c.finish-status.new.desk mends in
    let after = c.entries.ensures in
    let before = c.entries-before.ensures in
    omega (arith, fewer, after, before)

pub returns-clause-ends : goal.returns-clause-ends
returns-clause-ends g c =
    let on = (disk_words g.D.Disk.reads g.D.Disk.leaves g.D.Disk.moment g.D.Disk.since g.D.Disk.faults) in
    let laws : OfficeLaws = record {
      keeps = record {
        legal_step = c.histories_are_legal.ensures.step;
        legal_conduct = c.histories_are_legal.ensures.conduct;
        acknowledged = c.acknowledged_acts_are_kept.ensures;
        kept = c.kept_replies_stay.ensures.entry;
      };
      readings = c.readings_go_on.ensures;
      grow = c.histories_grow.ensures;
      once = c.numbers_once.ensures;
      legal_once = c.legal_numbers_once.ensures;
      places = c.one_place.ensures;
      rows = c.unbroken_rows.ensures;
      numbers = c.unbroken_numbers.ensures;
      lines = c.lines_are_added.ensures;
      rests = c.no_faults.ensures.settled;
      steps = c.no_faults.ensures.stepped;
    } in
    let office = of_parts c.apart.result.0 c.apart.result.1 in
    let start = pair c.args.disk c.args.second in
    let opens = subst (λ o. Opens on c.args.founder start o) (sym (put_together c.in-Ok-open_desk.desk _ _ c.apart.ensures.first c.apart.ensures.chained)) c.in-Ok-open_desk.ensures.opens in
    let s = c.serve-stop.ensures.stops in
    let t = turns_of laws.readings on c.args.founder journal_bytes (λ (a : FrontDesk _). a.desk) s.1 _ _ opens.founder_is opens.limit_is s.5 in
    let after = c.entries.ensures in
    let before = c.entries-before.ensures in
    let counted : c.entries.result - c.entries-before.result ≡ length c.finish-status.new.desk.state.settled - length office.chained.state.settled = omega (arith, after, before) in (
      s.0,
      s.2,
      s.3,
      served_ends laws on g.met.D.Disk.only_now c.args.founder start office c.serve-stop.new.attendant.desk t.turns opens t.takes _ _ s.0 _ c.finish-status.new.desk (pair c.apart.result.0 c.close.result) (c.entries.result - c.entries-before.result) (same_pair _ _ _ _ refl c.close.ensures) counted
          c.serve-stop.result c.finish-status.result (s.1, s.4, t.are) c.finish-status.ensures,
    )

pub returns-clause-read_faultless : goal.returns-clause-read_faultless
returns-clause-read_faultless g c = λ never.
    let on = (disk_words g.D.Disk.reads g.D.Disk.leaves g.D.Disk.moment g.D.Disk.since g.D.Disk.faults) in
    c.serve-stop.ensures.read_faultless (λ is. never (read_failed on c.serve-stop.new.attendant.desk c.finish-status.new.desk c.serve-stop.result c.finish-status.result c.finish-status.ensures is))

pub returns-clause-write_faultless : goal.returns-clause-write_faultless
returns-clause-write_faultless g c = λ never.
    let on = (disk_words g.D.Disk.reads g.D.Disk.leaves g.D.Disk.moment g.D.Disk.since g.D.Disk.faults) in
    c.serve-stop.ensures.write_faultless (λ is. never (write_failed on c.serve-stop.new.attendant.desk c.finish-status.new.desk c.serve-stop.result c.finish-status.result c.finish-status.ensures is))
