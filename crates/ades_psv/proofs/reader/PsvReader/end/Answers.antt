use Rattle.std.proofs.Common.{[], sym, ap, ◌∙◌}
use Rattle.std.specs.Str.Lines.{lines}
use Rattle.std.proofs.lemmas.Result.{err_from_is_err_and}
use Rattle.text_lines.specs.Steps.{◌>>=◌}
use Rattle.ades_psv.specs.Feeding.{Fed, read_lines, ended_at, progress_of, what_is_fed}
use Rattle.ades_psv.proofs.Walks.{fails_on, end_of}
use Rattle.ades_psv.proofs.reader.PsvReader.end.Goals as goal

pub returns-in_err-read_last-clause-exact : goal.returns-in_err-read_last-clause-exact
returns-in_err-read_last-clause-exact c =
    let is = sym c.self.view_is ∙ ap (what_is_fed c.self.inside.reached c.self.inside.rest) c.in_default.is in
    let ends = end_of c.args.self c.self.inside.reached c.self.inside.rest c.as_slice.result.now is c.as_slice.ensures in
    let p = err_from_is_err_and c.from_residual.result c.from_residual.ensures.1 in
    rw (ends, p.1, p.2) (fails_on (read_lines (progress_of c.self.inside.reached []) (lines c.as_slice.result.now) []) ended_at c.in_err-read_last.field-0.0 c.in_err-read_last.ensures.exact)

pub returns-in_err-ended-clause-exact : goal.returns-in_err-ended-clause-exact
returns-in_err-ended-clause-exact c =
    let is = sym c.self.view_is ∙ ap (what_is_fed c.self.inside.reached c.self.inside.rest) c.in_default.is in
    let ends = end_of c.args.self c.self.inside.reached c.self.inside.rest c.as_slice.result.now is c.as_slice.ensures in
    let p = err_from_is_err_and c.from_residual-in_err-ended.result c.from_residual-in_err-ended.ensures.1 in
    rw (ends, c.in_ok-read_last.ensures.exact, p.1, p.2) (c.in_err-ended.ensures c.read_last.new.self.found)

pub returns-clause-exact : goal.returns-clause-exact
returns-clause-exact c =
    let is = sym c.self.view_is ∙ ap (what_is_fed c.self.inside.reached c.self.inside.rest) c.in_default.is in
    let ends = end_of c.args.self c.self.inside.reached c.self.inside.rest c.as_slice.result.now is c.as_slice.ensures in
    ends ∙ ap (λ (r : Fed). r >>= ended_at) c.in_ok-read_last.ensures.exact ∙ c.in_ok-ended.ensures c.read_last.new.self.found
