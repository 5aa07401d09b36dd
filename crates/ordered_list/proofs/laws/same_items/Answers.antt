use Rattle.ordered_list.proofs.SameLemmas.{same_items}
use Rattle.ordered_list.proofs.laws.same_items.Goals as goal

pub returns : goal.returns
returns g c = same_items g.met.T.Ord.total
