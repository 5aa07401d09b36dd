use Rattle.mirror_store.specs.Rows.{IsSightRow}
use Rattle.mirror_store.proofs.TimeLemmas.{all_between, is_its_own, one_between}
use Rattle.mirror_store.proofs.laws.one_list_between.Goals as goal

pub returns-clause-is : goal.returns-clause-is
returns-clause-is c = is_its_own

pub returns-clause-alone : goal.returns-clause-alone
returns-clause-alone c = one_between

pub returns-clause-in_range : goal.returns-clause-in_range
returns-clause-in_range c = all_between IsSightRow
