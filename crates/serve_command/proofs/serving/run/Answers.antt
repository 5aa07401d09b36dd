use Rattle.std.proofs.Common.{◌≡◌, ◌+◌, ◌-◌, ◌≤◌, length, Some, refl, inl, inr, sym, subst, arith}
use Rattle.act_model.specs.Legal.{IsLegal}
use Rattle.command_ends.specs.Disks.{disk_words}
use Rattle.command_ends.specs.Opening.{Opens}
use Rattle.command_ends.specs.Parts.{of_parts, put_together}
use Rattle.intake_lock.specs.Items.{rises}
use Rattle.serve_command.specs.Links.{calls_in}
use Rattle.call_log.specs.Counts.{Rises}
use Rattle.mpc_desk.specs.Desks.{count_of}
use Rattle.mpc_desk.specs.Pairs.{pair, HaveRisen, disks_of}
use Rattle.mpc_desk.specs.PairLaws.{same_pair}
use Rattle.serve_command.specs.Runs.{HaveRisenBy}
use Rattle.serve_command.proofs.Gathering.{no_longer}
use Rattle.serve_command.proofs.Mending.{closed_so, mending_extends, extends_to, ends_legal, rose_between, rises_at_least, counted, no_call_rose, quiet_calls, no_write_so_far, writes_as}
use Rattle.serve_command.specs.Images.{AskedBy, WasAsked, WasBetween}
use Rattle.serve_command.proofs.KeptLemmas.{all_weaker, asked_by, kept_calls}
use Rattle.serve_command.proofs.WatchLemmas.{GrowthLaws, between_more, during_more, service_images}
use Rattle.serve_command.proofs.serving.run.Goals as goal

pub returns-in-Err-clause-ends : goal.returns-in-Err-clause-ends
returns-in-Err-clause-ends g c = inl ((refl, refl, refl, c.no_ends.ensures), c.in-Err.ensures.unopened)

pub write_lines-status-requires : goal.write_lines-status-requires
write_lines-status-requires g c =
    no_write_so_far (disk_words g.D.Disk.reads g.D.Disk.leaves g.D.Disk.moment g.D.Disk.since g.D.Disk.faults) c.attend_watched-desk.result.keeper
    c.mend_last-mended.new.desk c.attend_watched-desk.result.stop c.mend_last-mended.result c.first_fault.result c.first_fault.ensures
    c.mend_last-mended.ensures

pub overflow_sub-added : goal.overflow_sub-added
overflow_sub-added g c =
    let on = disk_words g.D.Disk.reads g.D.Disk.leaves g.D.Disk.moment g.D.Disk.since g.D.Disk.faults in
    let grows = c.attend_watched-desk.ensures.serves.1.grows in
    let closed = closed_so on c.attend_watched-desk.result.keeper c.mend_last-mended.new.desk c.mend_last-mended.result c.mend_last-mended.ensures in
    let longer : length c.apart.result.1.state.settled ≤ length c.mend_last-mended.new.desk.state.settled =
    no_longer c.apart.result.1.state.settled c.mend_last-mended.new.desk.state.settled
    (extends_to on c.attend_watched-desk.result.keeper c.mend_last-mended.new.desk closed c.apart.result.1.state.settled grows.newer grows.grown) in
    omega (arith, c.entries-before.ensures, c.entries-entries.ensures)

pub returns-clause-ends : goal.returns-clause-ends
returns-clause-ends g c =
    let on = disk_words g.D.Disk.reads g.D.Disk.leaves g.D.Disk.moment g.D.Disk.since g.D.Disk.faults in
    let faults = g.D.Disk.faults in
    let office = of_parts c.apart.result.0 c.apart.result.1 in
    let opened = office.chained in
    let start = pair c.args.disk c.args.second in
    let end = pair c.apart.result.0 c.close.result in
    let left = c.attend_watched-desk.result.keeper in
    let last = c.mend_last-mended.new.desk in
    let opens = subst (λ o. Opens on c.args.founder start o) (sym (put_together c.in-Ok.desk _ _ c.apart.ensures.first c.apart.ensures.chained)) c.in-Ok.ensures.opens in
    let serves = c.attend_watched-desk.ensures.serves.1 in
    let closed = closed_so on left last c.mend_last-mended.result c.mend_last-mended.ensures in
    let grows = extends_to on left last closed opened.state.settled serves.grows.newer serves.grows.grown in
    let longer = no_longer opened.state.settled last.state.settled grows in
    let legal = ends_legal on left last closed c.args.founder opened opens.founder_is opens.legal serves.grows.legal in
    let in_first = count_of (faults office.first) - count_of (faults c.args.disk) in
    let in_second = count_of (faults opened.disk) - count_of (faults c.args.second) in
    let rose : HaveRisen on (in_first + in_second) start (disks_of office) = record {
      first = in_first;
      second = in_second;
      sum = refl;
      rose_first = rose_between (faults c.args.disk) (faults office.first) opens.counts.first;
      rose_second = rose_between (faults c.args.second) (faults opened.disk) opens.counts.second;
    } in
    let disks_are : end ≡ pair office.first last.disk = same_pair _ _ _ _ refl c.close.ensures in
    let calls = rises (calls_in serves.attendances) in
    let second_counts = counted (faults c.args.second) (faults opened.disk) (faults left.disk) (faults last.disk) in_second calls closed.rise rose.rose_second serves.grows.counts
    closed.closed.counts in
    let counts : HaveRisenBy on (in_first + in_second + calls + closed.rise) start end =
    subst (λ d. HaveRisenBy on (in_first + in_second + calls + closed.rise) start d) (sym disks_are)
    (record { first = in_first; second = in_second + calls + closed.rise; sum = omega arith; rises_first = rises_at_least (faults c.args.disk) (faults office.first) in_first rose.rose_first; rises_second = second_counts }) in
    let answered = c.attend_watched-desk.ensures.serves.0 in
    let all = calls_in serves.attendances in
    let laws : GrowthLaws = record {
      grow = c.histories_grow.ensures;
      legal_step = c.histories_are_legal.ensures.step;
      legal_conduct = c.histories_are_legal.ensures.conduct;
      makes = c.steps_add_one_entry.ensures;
    } in
    let legal_left = (serves.grows.legal (subst (λ k. IsLegal k opened.state.settled) (sym opens.founder_is) opens.legal)).0 in
    let asks = asked_by c.beginnings.ensures.one laws c.kept_replies_stay.ensures.resend c.prefixes_are_legal.ensures on.moment on.since faults opened left answered
    c.attend_watched-desk.ensures.serves.2 legal_left all serves.grows.true_of serves.grows.stamps in
    let were = all_weaker (λ then. WasBetween on.moment on.since (WasAsked answered) opened left then.0)
    (λ then. WasBetween on.moment on.since (AskedBy all) opened left then.0)
    (λ then was. between_more on.moment on.since (WasAsked answered) (AskedBy all) opened left then.0 asks was)
    answered c.attend_watched-desk.ensures.serves.2 in
    inr (
    record {
      service = record {
        opened = office;
        opens = opens;
        left = left;
        stop = c.attend_watched-desk.result.stop;
        answered = answered;
        serves = serves;
        unasked = λ is. let same = c.attend_watched-desk.ensures.unasked is in (same.1, same.0);
        last = last;
        mended = c.mend_last-mended.result;
        mends = c.mend_last-mended.ensures;
      };
      office = record {
        disks_are = disks_are;
        images = service_images on c.args.founder (AskedBy all) start end office left last opens.founder_is opens.images
            (during_more opened.founder (Some opened.limit) (WasAsked answered) (AskedBy all) asks on.moment on.since opened.disk left.disk
            opened.state.settled left.state.settled c.attend_watched-desk.ensures.serves.3)
            closed.closed.no_image (mending_extends left.state last.state closed.rise closed.does) disks_are;
        kept = kept_calls g.D.Disk.moment g.D.Disk.since (AskedBy all) opened left last c.beginnings.ensures.one
            c.acknowledged_acts_are_kept.ensures
            (record { stands = c.added_calls.ensures.stands; stamp = c.added_calls.ensures.stamp })
            closed.closed.no_image (mending_extends left.state last.state closed.rise closed.does) answered
            were all serves.grows.true_of serves.grows.stamped;
        at_rest = closed.closed.at_rest;
        legal = legal;
        grows = grows;
        is_left = record {
          entries = omega (arith, c.entries-before.ensures, c.entries-entries.ensures);
          once = c.legal_numbers_once.ensures c.args.founder last.state.settled legal.0;
          places = c.one_place.ensures last.state.settled;
          rows = c.unbroken_rows.ensures last.state.settled;
          numbers = c.unbroken_numbers.ensures last.state.settled;
          lines = c.lines_are_added.ensures opened.state.settled last.state.settled grows;
        };
      };
      faults = record {
        opening = in_first + in_second;
        rose_opening = rose;
        mending = closed.rise;
        rose_mending = closed.closed.counts;
        counts = counts;
        quiet = λ never. quiet_calls all
            (no_call_rose (faults c.args.second) (faults last.disk) in_second calls closed.rise (λ rises. never (inr (subst (λ d. Rises (faults c.args.second) (faults d.second)) (sym disks_are) rises))) second_counts) serves.causes;
      };
      writes = writes_as _ _ _ _ _ _ _ _ _ _ c.first_fault.ensures c.count_of.ensures c.entries-entries.ensures c.write_lines-status.ensures.writes;
    }
    )
