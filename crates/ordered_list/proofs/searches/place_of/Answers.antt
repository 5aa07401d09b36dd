use Rattle.ordered_list.proofs.PlaceLemmas.{place_found}
use Rattle.ordered_list.proofs.searches.place_of.Goals as goal

pub returns-clause-found : goal.returns-clause-found
returns-clause-found g c = (place_found g.met.T.Ord.total c.args.items.now c.args.key.now c.binary_search.result c.requires c.binary_search.ensures.bound c.binary_search.ensures.position).at

pub returns-clause-gap : goal.returns-clause-gap
returns-clause-gap g c = (place_found g.met.T.Ord.total c.args.items.now c.args.key.now c.binary_search.result c.requires c.binary_search.ensures.bound c.binary_search.ensures.position).gap
