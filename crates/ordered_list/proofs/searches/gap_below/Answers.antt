use Rattle.ordered_list.proofs.MergeLemmas.{found_neither}
use Rattle.ordered_list.proofs.MergedPlaces.{belongs_merged}
use Rattle.ordered_list.proofs.searches.gap_below.Goals as goal

pub gap_for-requires-clause-missing : goal.gap_for-requires-clause-missing
gap_for-requires-clause-missing g c = (found_neither g.met.T.Ord.total c.args.key.now c.args.settled.now c.args.recent.now c.requires.missing).1

pub gap_for-requires-2-clause-missing : goal.gap_for-requires-2-clause-missing
gap_for-requires-2-clause-missing g c = (found_neither g.met.T.Ord.total c.args.key.now c.args.settled.now c.args.recent.now c.requires.missing).0

pub returns-clause-belongs : goal.returns-clause-belongs
returns-clause-belongs g c =
    belongs_merged g.met.T.Ord.total c.args.key.now c.args.settled.now c.args.recent.now c.gap_for.result c.gap_for-2.result c.requires.pair c.requires.missing c.gap_for.ensures c.gap_for-2.ensures
