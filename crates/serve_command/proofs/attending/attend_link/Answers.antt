use Rattle.std.proofs.Common.{ℕ, sym, subst}
use Rattle.http_connection.specs.Attending.{ReadCounts, WriteCounts}
use Rattle.call_log.specs.Counts.{Rises}
use Rattle.serve_command.proofs.attending.attend_link.Goals as goal

pub returns-clause-attended : goal.returns-clause-attended
returns-clause-attended g c =
    let was = c.attend-pass.ensures in
    let read_stays = c.end.ensures.counts in
    let write_stays = c.end-2.ensures.counts in
    record {
      read = c.attend-pass.new.source;
      written = c.attend-pass.new.sink;
      clock_after = _;
      attended = was.attended;
      source_stays = c.end.ensures.bytes;
      sink_stays = c.end-2.ensures.bytes;
      source_ended = c.end.ensures.closes;
      sink_ended = c.end-2.ensures.closes;
      read_counts = subst (λ (n : ℕ). ReadCounts c.attend-pass.result.1 (g.S.Source.faults c.args.source) n) (sym read_stays) was.source_faults;
      write_counts = subst (λ (n : ℕ). WriteCounts c.attend-pass.result.1 (g.K.Sink.faults c.args.sink) n) (sym write_stays) was.sink_faults;
      complete = λ bytes known good no_read no_write. was.complete bytes known good
          (λ rose. no_read (subst (λ (n : ℕ). Rises (g.S.Source.faults c.args.source) n) (sym read_stays) rose))
          (λ rose. no_write (subst (λ (n : ℕ). Rises (g.K.Sink.faults c.args.sink) n) (sym write_stays) rose));
    }
