use Rattle.std.proofs.Common.{refl}
use Rattle.ordered_list.proofs.MergeLemmas.{apart_found, missing_both}
use Rattle.ordered_list.proofs.ArrangedLemmas.{newest_inserted, settled_inserted}
use Rattle.ordered_list.proofs.changes.replace_older.Goals as goal

pub returns-in-Ok-clause-pair : goal.returns-in-Ok-clause-pair
returns-in-Ok-clause-pair g c =
    (newest_inserted g.met.T.Ord.total c.args.item c.args.settled.now.items c.args.recent.now.items _ _ c.requires refl c.in-Ok.ensures.replaced
    (apart_found g.met.T.Ord.total c.args.item c.args.settled.now.items c.args.recent.now.items c.requires.apart c.in-Ok.ensures.there)).0

pub returns-in-Ok-clause-replaced : goal.returns-in-Ok-clause-replaced
returns-in-Ok-clause-replaced g c =
    (newest_inserted g.met.T.Ord.total c.args.item c.args.settled.now.items c.args.recent.now.items _ _ c.requires refl c.in-Ok.ensures.replaced
    (apart_found g.met.T.Ord.total c.args.item c.args.settled.now.items c.args.recent.now.items c.requires.apart c.in-Ok.ensures.there)).1

pub returns-in-Ok-replace-clause-pair : goal.returns-in-Ok-replace-clause-pair
returns-in-Ok-replace-clause-pair g c =
    (settled_inserted g.met.T.Ord.total c.args.item c.args.settled.now.items c.args.recent.now.items _ _ c.requires c.in-Ok-replace.ensures.replaced c.in_default.ensures.stays c.in_default.ensures.missing).0

pub returns-in-Ok-replace-clause-replaced : goal.returns-in-Ok-replace-clause-replaced
returns-in-Ok-replace-clause-replaced g c =
    (settled_inserted g.met.T.Ord.total c.args.item c.args.settled.now.items c.args.recent.now.items _ _ c.requires c.in-Ok-replace.ensures.replaced c.in_default.ensures.stays c.in_default.ensures.missing).1

pub returns-in-Err-clause-missing : goal.returns-in-Err-clause-missing
returns-in-Err-clause-missing g c =
    missing_both g.met.T.Ord.total c.args.item c.args.settled.now.items c.args.recent.now.items c.in_default.ensures.missing c.in-Err.ensures.missing
