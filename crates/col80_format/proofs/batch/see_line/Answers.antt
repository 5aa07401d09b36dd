use Rattle.std.proofs.Common.{ap, sym, subst, ◌∙◌}
use Rattle.obs_record.specs.declared.line.Line.{Line}
use Rattle.obs_record.specs.Lines.{AreInRange}
use Rattle.col80_format.specs.declared.batch.Seen.{Seen}
use Rattle.col80_format.proofs.Batches.{found_in_range}
use Rattle.col80_format.proofs.batch.see_line.Goals as goal
use Rattle.col80_format.proofs.batch.see_line.Goals.{then-observed+then-not-are_blanks+in_ok-push, else-observed}

pub returns-clause-range : goal.returns-clause-range
returns-clause-range c = λ before.
    elim c.if-observed.branch [
      | then-observed+then-not-are_blanks+in_ok-push w ↦
          let line : Line = record { number = c.args.seen.now.next; read = w.read_line-read.result } in
          found_in_range c.args.seen.now.found c.if-observed.seen.found line (ap (λ (s : Seen). s.found) w.seen-is ∙ w.in_ok-push.ensures.ok) w.read_line-read.ensures.range before
      | else-observed w ↦ subst AreInRange (sym (ap (λ (s : Seen). s.found) w.seen-is)) before
    ]
