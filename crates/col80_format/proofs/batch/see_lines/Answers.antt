use Rattle.std.proofs.Common.{◌≡◌, length, take, ap, sym, ◌∙◌, arith}
use Rattle.text_lines.specs.Pieces.{complete_lines}
use Rattle.col80_format.specs.declared.batch.Seen.{Seen}
use Rattle.col80_format.specs.Feeding.{seen_on, seen_all}
use Rattle.col80_format.proofs.Batches.{next-seen_on, found_stays}
use Rattle.col80_format.proofs.batch.see_lines.Goals as goal

pub lines-preserved : goal.lines-preserved
lines-preserved c =
    let on : c.see_line.new.seen ≡ seen_on c.lines.seen c.in-Some.line.now = c.in_ok-see_line.ensures.seen in
    let cut : complete_lines c.lines.rest.now ≡ _ = c.in-Some.ensures.line in
    record {
      seen = ap (λ (s : Seen). seen_all s (complete_lines c.in-Some.after.now)) on ∙ ap (seen_all c.lines.seen) (sym cut) ∙ c.lines.invariant.seen;
      rest = sym c.in-Some.ensures.rest ∙ c.lines.invariant.rest;
      room = omega (arith, c.in-Some.ensures.shorter, ap (λ (s : Seen). s.next) on, next-seen_on c.lines.seen c.in-Some.line.now, c.lines.invariant.room);
      kept = ap (λ (s : Seen). take (length c.args.seen.now.found) s.found) on ∙ found_stays c.args.seen.now.found c.lines.seen c.in-Some.line.now c.lines.invariant.kept;
      range = λ before. c.in_ok-see_line.ensures.range (c.lines.invariant.range before);
    }
