use Rattle.std.proofs.Common.{sym, ◌∙◌}
use Rattle.ordered_list.proofs.MergeLemmas.{found_newest, found_settled}
use Rattle.ordered_list.proofs.searches.find_older.Goals as goal

pub returns-in-Some : goal.returns-in-Some
returns-in-Some g c = sym (found_newest g.met.T.Ord.total c.args.key.now c.in-Some.item c.args.settled.now c.args.recent.now (sym c.in-Some.ensures))

pub returns-in-None : goal.returns-in-None
returns-in-None g c = c.find_in-in-None.ensures ∙ sym (found_settled g.met.T.Ord.total c.args.key.now c.args.settled.now c.args.recent.now (sym c.in-None.ensures))
