use Rattle.std.proofs.Common.{ℕ, ◌+◌, List, [], Bor, length, length-drop, length-set, ap, ◌∙◌, arith}
use Rattle.std.proofs.lemmas.Grind.{common_steps}
use Rattle.std.proofs.lemmas.Option.{unwrap_or-slice_get}
use Rattle.ades_psv.specs.Cells.{cells}
use Rattle.ades_psv.proofs.CellLaws.{length_cells}
use Rattle.ades_psv.proofs.Cutting.{reached, all_passed}
use Rattle.ades_psv.proofs.fields.cut_cells.Goals as goal

pub cells-preserved : goal.cells-preserved
cells-preserved c =
    let more = rw c.in-Some.is at c.first_cell.ensures.exact in
    let shorter = rw c.in-Some.is at c.first_cell.ensures.shorter in
    let at = reached (cells c.args.cut.now.line.now) c.cells.place c.first_cell.result.0.now (cells c.in-Some.behind.now) (c.cells.invariant.rest ∙ more) in
    record {
      same = c.cells.invariant.same;
      rest = at.after;
      within = omega (arith, shorter, c.cells.invariant.within);
      kept = simp length-set c.cells.invariant.kept;
      first = λ k d below. grind (arith, common_steps, c.cells.invariant.first k d);
      clear = λ k d few past. grind (arith, common_steps, c.cells.invariant.clear k d few);
    }

pub returns-in_default-clause-cells : goal.returns-in_default-clause-cells
returns-in_default-clause-cells c =
    let last = rw c.in_default.is at c.first_cell.ensures.exact in
    let at = reached (cells c.args.cut.now.line.now) c.cells.place c.first_cell.result.0.now _ (c.cells.invariant.rest ∙ last) in
    let all = all_passed (cells c.args.cut.now.line.now) (c.cells.place + 1) at.after in
    record {
      whole = ap (λ (t : Bor (List ℕ)). t.now) c.cells.invariant.same;
      count = omega (arith, all, at.within);
      first = λ k d few. rw (unwrap_or-slice_get (cells c.args.cut.now.line.now) k []) (grind (arith, common_steps, c.cells.invariant.first k d, c.cells.invariant.clear k d few));
    }

pub returns-clause-cells : goal.returns-clause-cells
returns-clause-cells c = record {
  whole = ap (λ (t : Bor (List ℕ)). t.now) c.cells.invariant.same;
  count = omega (arith, ap length c.cells.invariant.rest, length-drop c.cells.place (cells c.args.cut.now.line.now), length_cells c.cells.rest.now, c.count_cells.ensures.exact);
  first = λ k d few. rw (unwrap_or-slice_get (cells c.args.cut.now.line.now) k []) (c.cells.invariant.first k d (omega arith));
}
