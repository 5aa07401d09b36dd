use mir.Val.{SFits}
use Rattle.std.proofs.Common.{rules, w64, pos, refl}
use Rattle.sqlite.specs.Held.{state}
use Rattle.mirror_sqlite.proofs.Adding.{passed, gains_sight}
use Rattle.mirror_sqlite.proofs.Failing.{failed_keeps}
use Rattle.mirror_sqlite.proofs.texts.add_sight.Goals as goal

pub returns-in-Ok-clause-changes : goal.returns-in-Ok-clause-changes
returns-in-Ok-clause-changes g c clean going =
    let row = c.args.row.now in
    let id : SFits w64 c.from.result = search rules in
    let time : SFits w64 row.time = search rules in
    let ra : SFits w64 row.ra = search rules in
    let dec : SFits w64 row.dec = search rules in
    gains_sight row _ _ _ _ c.name.result.now c.code.result.now (passed c.from.result (pos row.id) id c.from.ensures)
    c.name.ensures (passed row.time _ time refl) (passed row.ra _ ra refl) (passed row.dec _ dec refl) c.code.ensures
    (state g.S.Store c.args.tx.now.conn.now) (state g.S.Store c.execute.new.self.conn.now) c.in-Ok.field-0
    (c.in-Ok.ensures.runs clean going).0

pub returns-in-Err-clause-kept : goal.returns-in-Err-clause-kept
returns-in-Err-clause-kept g c clean going =
    failed_keeps _ _ (state g.S.Store c.args.tx.now.conn.now) (state g.S.Store c.execute.new.self.conn.now) c.in-Err.error
    (c.in-Err.ensures.runs clean going)
