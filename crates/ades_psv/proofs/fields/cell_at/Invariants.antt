use Rattle.std.proofs.Common.{◌≡◌, drop}
use Rattle.ades_psv.specs.Cells.{cells}
use Rattle.ades_psv.proofs.fields.cell_at.Given as goal

abbrev pub invariant-cells : goal.invariant-cells
invariant-cells l = drop l._passed (cells l.line) ≡ cells l.rest
