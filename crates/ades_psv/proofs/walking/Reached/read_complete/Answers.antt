use Rattle.std.proofs.Common.{[], sym, ap, ◌∙◌, arith}
use Rattle.std.proofs.lemmas.Result.{err_from_is_err_and}
use Rattle.text_lines.specs.Pieces.{complete_lines, unfinished}
use Rattle.text_lines.specs.Steps.{◌>>=◌}
use Rattle.ades_psv.specs.Feeding.{Fed, read_lines, read_on, progress_of}
use Rattle.ades_psv.specs.Walking.{line_read}
use Rattle.ades_psv.proofs.Walks.{fails_on, read_cut, kept_again}
use Rattle.ades_psv.proofs.walking.Reached.read_complete.Goals as goal

pub returns-in_err-read_line-clause-exact : goal.returns-in_err-read_line-clause-exact
returns-in_err-read_line-clause-exact c =
    let p = err_from_is_err_and c.from_residual.result c.from_residual.ensures.1 in
    let cut = read_cut c.lines.self c.lines.rest.now c.in-Some.line.now c.in-Some.behind.now c.in-Some.ensures.line c.in-Some.ensures.rest in
    rw (← c.lines.invariant.left, cut, p.1, p.2) (fails_on (line_read (progress_of c.lines.self []) c.in-Some.line.now) _ c.in_err-read_line.field-0.0 c.in_err-read_line.ensures.exact)

pub lines-preserved : goal.lines-preserved
unfolding read_on
lines-preserved c =
    let so_far = c.lines.invariant in
    let behind = c.in-Some.behind.now in
    let cut = read_cut c.lines.self c.lines.rest.now c.in-Some.line.now behind c.in-Some.ensures.line c.in-Some.ensures.rest in
    record {
      left = sym (cut ∙ ap (λ (r : Fed). r >>= λ q. read_lines q (complete_lines behind) (unfinished behind)) c.in_ok-read_line.ensures.exact) ∙ so_far.left;
      unfinished = sym c.in-Some.ensures.rest ∙ so_far.unfinished;
      few = omega (arith, c.in-Some.ensures.shorter, c.in_ok-read_line.ensures.count, so_far.few);
      kept = kept_again c.args.self.now.found c.lines.self.found c.read_line.new.self.found so_far.kept c.in_ok-read_line.ensures.kept;
      range = λ range. c.in_ok-read_line.ensures.range (so_far.range range);
    }
