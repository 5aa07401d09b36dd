use Rattle.ordered_list.proofs.PlaceLemmas.{past_told}
use Rattle.ordered_list.proofs.searches.is_past.Goals as goal

pub returns-else-len-eq0 : goal.returns-else-len-eq0
returns-else-len-eq0 g c =
    past_told g.met.T.Ord.total c.args.items.now c.args.key.now c.index-items-len.result c.cmp.result c.is_lt.result c.requires c.if-len-eq0.false c.index-items-len.is
    c.cmp.ensures c.is_lt.ensures
