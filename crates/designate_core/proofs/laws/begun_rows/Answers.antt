use Rattle.designate_core.proofs.RowLemmas.{none_before, begun_by_count}
use Rattle.designate_core.proofs.laws.begun_rows.Goals as goal

pub returns-clause-none : goal.returns-clause-none
returns-clause-none c = none_before

pub returns-clause-count : goal.returns-clause-count
returns-clause-count c = begun_by_count
