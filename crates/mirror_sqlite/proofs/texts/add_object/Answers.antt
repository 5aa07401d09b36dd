use mir.Val.{SFits}
use Rattle.std.proofs.Common.{rules, w64, pos}
use Rattle.sqlite.specs.Held.{state}
use Rattle.mirror_sqlite.proofs.Adding.{passed, gains_object}
use Rattle.mirror_sqlite.proofs.texts.add_object.Goals as goal

pub returns-in-Ok-clause-changes : goal.returns-in-Ok-clause-changes
returns-in-Ok-clause-changes g c clean going =
    let row = c.args.row.now in
    let place : SFits w64 c.from.result = search rules in
    let number : SFits w64 c.from-2.result = search rules in
    let observations : SFits w64 c.from-3.result = search rules in
    gains_object row _ _ _ c.name.result.now (passed c.from.result (pos row.place) place c.from.ensures) c.name.ensures
    (passed c.from-2.result (pos row.number) number c.from-2.ensures)
    (passed c.from-3.result (pos row.observations) observations c.from-3.ensures) (state g.S.Store c.args.tx.now.conn.now)
    (state g.S.Store c.execute.new.self.conn.now) c.in-Ok.field-0 (c.in-Ok.ensures.runs clean going).0
