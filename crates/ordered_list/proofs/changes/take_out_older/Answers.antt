use Rattle.std.proofs.Common.{length, refl, ap, sym, ◌∙◌, arith}
use Rattle.std.specs.Prelude.{is_some}
use Rattle.ordered_list.proofs.MergeLemmas.{found_newest, found_settled}
use Rattle.ordered_list.proofs.RemoveLemmas.{removed_none}
use Rattle.ordered_list.proofs.ArrangedLemmas.{newest_removed, settled_removed}
use Rattle.ordered_list.proofs.changes.take_out_older.Goals as goal

-- ---- one of the recent items

pub returns-in-Some-clause-pair : goal.returns-in-Some-clause-pair
returns-in-Some-clause-pair g c =
    (newest_removed g.met.T.Ord.total c.args.key.now c.args.settled.now.items c.args.recent.now.items _ _ c.requires refl c.in-Some.ensures.removed (ap is_some (sym c.in-Some.ensures.gives))).0

pub returns-in-Some-clause-gives : goal.returns-in-Some-clause-gives
returns-in-Some-clause-gives g c =
    sym (found_newest g.met.T.Ord.total c.args.key.now c.in-Some.item c.args.settled.now.items c.args.recent.now.items (sym c.in-Some.ensures.gives))

pub returns-in-Some-clause-removed : goal.returns-in-Some-clause-removed
returns-in-Some-clause-removed g c =
    (newest_removed g.met.T.Ord.total c.args.key.now c.args.settled.now.items c.args.recent.now.items _ _ c.requires refl c.in-Some.ensures.removed (ap is_some (sym c.in-Some.ensures.gives))).1

-- ---- one of the settled ones, or none

pub returns-clause-pair : goal.returns-clause-pair
returns-clause-pair g c =
    (settled_removed g.met.T.Ord.total c.args.key.now c.args.settled.now.items c.args.recent.now.items _ _ c.requires c.take_out-2.ensures.removed
    (c.in_default.ensures.removed ∙ removed_none g.T.Ord.cmp c.args.key.now c.args.recent.now.items (sym c.in_default.ensures.gives)) (sym c.in_default.ensures.gives)).0

pub returns-clause-gives : goal.returns-clause-gives
returns-clause-gives g c =
    c.take_out-2.ensures.gives
    ∙ sym (found_settled g.met.T.Ord.total c.args.key.now c.args.settled.now.items c.args.recent.now.items (sym c.in_default.ensures.gives))

pub returns-clause-removed : goal.returns-clause-removed
returns-clause-removed g c =
    (settled_removed g.met.T.Ord.total c.args.key.now c.args.settled.now.items c.args.recent.now.items _ _ c.requires c.take_out-2.ensures.removed
    (c.in_default.ensures.removed ∙ removed_none g.T.Ord.cmp c.args.key.now c.args.recent.now.items (sym c.in_default.ensures.gives)) (sym c.in_default.ensures.gives)).1

pub returns-clause-fewer : goal.returns-clause-fewer
returns-clause-fewer g c there =
    let stays = c.in_default.ensures.removed ∙ removed_none g.T.Ord.cmp c.args.key.now c.args.recent.now.items (sym c.in_default.ensures.gives) in
    omega (arith, ap length stays, c.take_out-2.ensures.fewer there)
