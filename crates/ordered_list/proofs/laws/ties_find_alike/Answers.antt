use Rattle.ordered_list.proofs.MergeLemmas.{found_alike, tie_from_test}
use Rattle.std.proofs.lemmas.Cmp.{tied_back}
use Rattle.ordered_list.proofs.laws.ties_find_alike.Goals as goal

pub returns : goal.returns
returns g c key other items tie =
    found_alike g.met.T.Ord.total key other items (tied_back g.met.T.Ord.total other key (tie_from_test (g.T.Ord.cmp other key) tie))
