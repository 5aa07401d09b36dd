use Rattle.std.proofs.Common.{refl}
use Rattle.sqlite.specs.Held.{state}
use Rattle.mirror_sqlite.proofs.Adding.{passed}
use Rattle.mirror_sqlite.proofs.Commands.{list_sights, list_sights_is}
use Rattle.mirror_sqlite.proofs.Failing.{shown_keeps, failed_query_keeps, query_survives}
use Rattle.mirror_sqlite.proofs.Listing.{lists_sights}
use Rattle.mirror_sqlite.proofs.texts.between.Goals as goal

pub returns-in-Ok-clause-lists : goal.returns-in-Ok-clause-lists
returns-in-Ok-clause-lists g c clean =
    lists_sights (state g.S.Store c.args.conn.now) (state g.S.Store c.query_all-found.new.self) c.args.from c.args.to _ _
    c.as_slice.result.now c.in-Ok.rows.items c.sights_of.result (passed c.args.from _ c.ranges.from refl)
    (passed c.args.to _ c.ranges.to refl) c.as_slice.ensures.value (c.in-Ok.ensures.ok clean) c.sights_of.ensures.shown
    c.sights_of.ensures.range

pub returns-in-Ok-clause-kept : goal.returns-in-Ok-clause-kept
returns-in-Ok-clause-kept g c clean =
    shown_keeps list_sights _ list_sights_is.2 (state g.S.Store c.args.conn.now) (state g.S.Store c.query_all-found.new.self)
    c.in-Ok.rows.items (c.in-Ok.ensures.ok clean)

pub returns-in-Ok-clause-survives : goal.returns-in-Ok-clause-survives
returns-in-Ok-clause-survives g c lists held =
    query_survives list_sights _ list_sights_is.2 (state g.S.Store c.args.conn.now) (state g.S.Store c.query_all-found.new.self) lists
    held c.query_all-found.ensures.survives

pub returns-in-Err-clause-kept : goal.returns-in-Err-clause-kept
returns-in-Err-clause-kept g c clean =
    failed_query_keeps list_sights _ list_sights_is.2 (state g.S.Store c.args.conn.now) (state g.S.Store c.query_all-found.new.self)
    c.in-Err.error (c.in-Err.ensures.err clean)

pub returns-in-Err-clause-survives : goal.returns-in-Err-clause-survives
returns-in-Err-clause-survives g c lists held =
    query_survives list_sights _ list_sights_is.2 (state g.S.Store c.args.conn.now) (state g.S.Store c.query_all-found.new.self) lists
    held c.query_all-found.ensures.survives
