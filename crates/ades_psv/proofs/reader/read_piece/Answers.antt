use Rattle.std.proofs.Common.{◌≡◌, [], ◌++◌, ℕ, List, sym, ap, ◌∙◌}
use Rattle.std.proofs.lemmas.Result.{err_from_is_err_and}
use Rattle.text_lines.specs.Pieces.{complete_lines}
use Rattle.ades_psv.specs.Feeding.{read_on, progress_of}
use Rattle.ades_psv.proofs.Walks.{fails_on, read_uncut, read_parts, read_then}
use Rattle.ades_psv.proofs.reader.read_piece.Goals as goal

pub returns-in_default-clause-exact : goal.returns-in_default-clause-exact
returns-in_default-clause-exact c =
    let rest = c.args.rest.now in
    let none = c.in_default.ensures.no_line rest ∙ ap complete_lines (sym c.requires.alone) ∙ c.lines.ensures.rest_alone rest in
    let left = c.in_default.ensures.goes_on rest ∙ ap (λ (t : List ℕ). t ++ c.args.piece.now) c.requires.alone in
    rw c.in_ok-extend_from_slice.ensures.ok (read_uncut c.args.reached.now rest c.args.piece.now none left)

pub returns-in_err-read_complete-clause-exact : goal.returns-in_err-read_complete-clause-exact
returns-in_err-read_complete-clause-exact c =
    let text : c.as_slice.result.now ≡ c.args.rest.now ++ c.in-Some.front.now = c.as_slice.ensures ∙ c.in_ok-extend_from_slice-2.ensures.ok in
    let p = err_from_is_err_and c.from_residual-in_err-read_complete.result c.from_residual-in_err-read_complete.ensures.1 in
    rw (read_parts c.lines.ensures c.args.reached.now c.args.rest.now c.in-Some.front.now c.in-Some.behind.now c.args.piece.now c.as_slice.result.now c.in-Some.ensures.parts text, p.1, p.2)
    (fails_on (read_on (progress_of c.args.reached.now []) c.as_slice.result.now) _ c.in_err-read_complete.field-0.0 c.in_err-read_complete.ensures.exact)

pub returns-in_err-unfinished-clause-exact : goal.returns-in_err-unfinished-clause-exact
returns-in_err-unfinished-clause-exact c =
    let text : c.as_slice.result.now ≡ c.args.rest.now ++ c.in-Some.front.now = c.as_slice.ensures ∙ c.in_ok-extend_from_slice-2.ensures.ok in
    let then = read_then c.lines.ensures c.args.reached.now c.read_complete.new.self c.args.rest.now c.in-Some.front.now c.in-Some.behind.now c.args.piece.now c.as_slice.result.now
    c.in_ok-read_complete.field-0.now c.in-Some.ensures.parts text c.in_ok-read_complete.ensures.exact c.in_ok-read_complete.ensures.rest (c.in-Some.ensures.ended c.args.rest.now) in
    let p = err_from_is_err_and c.from_residual-in_err-unfinished.result c.from_residual-in_err-unfinished.ensures.1 in
    rw (then, p.1, p.2) c.in_err-unfinished.ensures.exact

pub returns-clause-exact : goal.returns-clause-exact
returns-clause-exact c =
    let text : c.as_slice.result.now ≡ c.args.rest.now ++ c.in-Some.front.now = c.as_slice.ensures ∙ c.in_ok-extend_from_slice-2.ensures.ok in
    let then = read_then c.lines.ensures c.args.reached.now c.read_complete.new.self c.args.rest.now c.in-Some.front.now c.in-Some.behind.now c.args.piece.now c.as_slice.result.now
    c.in_ok-read_complete.field-0.now c.in-Some.ensures.parts text c.in_ok-read_complete.ensures.exact c.in_ok-read_complete.ensures.rest (c.in-Some.ensures.ended c.args.rest.now) in
    rw (then, c.in_ok-rest.ensures) c.in_ok-unfinished.ensures.exact

pub returns-clause-range : goal.returns-clause-range
returns-clause-range c = λ before. c.in_ok-unfinished.ensures.range (c.in_ok-read_complete.ensures.range before)
