use Rattle.std.proofs.Common.{ap}
use Rattle.std.specs.Ordering.{is_eq}
use Rattle.std.proofs.lemmas.Cmp.{tied_itself}
use Rattle.ordered_list.proofs.laws.ties_itself.Goals as goal

pub returns : goal.returns
returns g c item = ap is_eq (tied_itself g.met.T.Ord.total item)
