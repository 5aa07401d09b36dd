use Rattle.ordered_list.proofs.InsertLemmas.{found-inserted}
use Rattle.ordered_list.proofs.MergeLemmas.{sorted-inserted}
use Rattle.ordered_list.proofs.laws.item_inserted.Goals as goal

pub returns-clause-finds : goal.returns-clause-finds
returns-clause-finds g c = found-inserted g.met.T.Ord.total

pub returns-clause-sorted : goal.returns-clause-sorted
returns-clause-sorted g c = sorted-inserted g.met.T.Ord.total
