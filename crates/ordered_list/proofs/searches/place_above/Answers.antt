use Rattle.ordered_list.proofs.AboveLemmas.{found_next, gap_next}
use Rattle.ordered_list.proofs.searches.place_above.Goals as goal

pub returns-in-Ok : goal.returns-in-Ok
returns-in-Ok g c = found_next g.met.T.Ord.total c.args.key.now c.args.items.now c.in-Ok.place c.requires c.in-Ok.ensures.found

pub returns-in-Err : goal.returns-in-Err
returns-in-Err g c = gap_next g.T.Ord.cmp c.args.key.now c.args.items.now c.in-Err.place c.in-Err.ensures.gap
