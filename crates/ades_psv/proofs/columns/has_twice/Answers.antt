use Rattle.std.proofs.Common.{[], sym, ap, ◌∙◌}
use Rattle.ades_psv.specs.Cells.{cells}
use Rattle.ades_psv.specs.Columns.{is_seen, repeats}
use Rattle.ades_psv.proofs.NameSets.{repeats_none}
use Rattle.ades_psv.proofs.columns.has_twice.Goals as goal

pub names-init : goal.names-init
names-init c = rw c.new-seen.ensures.empty (repeats_none (cells c.args.line.now))

pub returns-in_default : goal.returns-in_default
unfolding repeats
returns-in_default c =
    let last = rw c.in_default.is at c.first_cell.ensures.exact in
    let said = rw c.if-branch.false at (c.in_ok-is_again.ensures []) in
    sym said ∙ ap (repeats (is_seen c.names.seen)) (sym last) ∙ c.names.invariant
