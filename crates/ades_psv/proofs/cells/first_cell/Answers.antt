use Rattle.ades_psv.proofs.CellLaws.{cells_cut}
use Rattle.ades_psv.proofs.cells.first_cell.Goals as goal

pub returns-clause-exact : goal.returns-clause-exact
returns-clause-exact c =
    cells_cut c.args.line.now c.cut_at_bar.result.0.now c.trimmed.result.now c.cut_at_bar.result.1 c.trimmed.ensures.exact
    c.cut_at_bar.ensures.first c.cut_at_bar.ensures.parts c.cut_at_bar.ensures.whole
