use Rattle.std.proofs.Common.{◌≡◌, ◌+◌, [], refl, ◌∙◌, arith, sym}
use Rattle.std.proofs.lemmas.Option.{slice_get_past, unwrap_or-slice_get}
use Rattle.ades_psv.specs.Cells.{cells}
use Rattle.ades_psv.proofs.Cutting.{reached, all_passed}
use Rattle.ades_psv.proofs.fields.cell_at.Goals as goal

pub cells-preserved : goal.cells-preserved
cells-preserved c =
    let more = rw c.in-Some.is at c.first_cell.ensures.exact in
    (reached (cells c.args.line.now) c.cells._passed c.first_cell.result.0.now (cells c.in-Some.behind.now) (c.cells.invariant ∙ more)).after

pub returns-in_default : goal.returns-in_default
returns-in_default c =
    let last = rw c.in_default.is at c.first_cell.ensures.exact in
    let at = reached (cells c.args.line.now) c.cells._passed c.first_cell.result.0.now _ (c.cells.invariant ∙ last) in
    let all = all_passed (cells c.args.line.now) (c.cells._passed + 1) at.after in
    rw (slice_get_past (cells c.args.line.now) c.args.place (omega arith)) refl

pub returns : goal.returns
returns c =
    let same : c.args.place ≡ c.cells._passed = omega arith in
    let at = reached (cells c.args.line.now) c.cells._passed c.first_cell-2.result.0.now _ (c.cells.invariant ∙ c.first_cell-2.ensures.exact) in
    rw (unwrap_or-slice_get (cells c.args.line.now) c.args.place [], same) (sym at.here)
