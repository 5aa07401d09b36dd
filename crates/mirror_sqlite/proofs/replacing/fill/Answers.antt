use Rattle.std.proofs.Common.{arith}
use Rattle.sqlite.specs.Held.{state}
use Rattle.sqlite.specs.State.{HasCleanDisk}
use Rattle.mirror_sqlite.proofs.Putting.{replaced}
use Rattle.mirror_sqlite.proofs.replacing.fill.Goals as goal

pub returns-clause-replaces : goal.returns-clause-replaces
returns-clause-replaces g c clean going =
    let old = state g.S.Store c.args.tx.now.conn.now in
    let one = state g.S.Store c.empty_sights.new.tx.conn.now in
    let two = state g.S.Store c.empty_objects.new.tx.conn.now in
    let three = state g.S.Store c.put_objects.new.tx.conn.now in
    let new = state g.S.Store c.put_sights.new.tx.conn.now in
    let third : HasCleanDisk three = omega (arith, c.put_sights.ensures.clean, clean) in
    let second : HasCleanDisk two = omega (arith, c.put_objects.ensures.clean, third) in
    let first : HasCleanDisk one = omega (arith, c.empty_objects.ensures.survives.clean, second) in
    let on_one = (c.in_ok-empty_sights.ensures.inside first going).mode in
    let on_two = (c.in_ok-empty_objects.ensures.inside second on_one).mode in
    let on_three = (c.in_ok-put_objects.ensures.inside third on_two).going in
    replaced old one two three new c.args.rows.now _ _ c.put_sights.result c.as_slice.ensures c.as_slice-2.ensures
    (c.in_ok-empty_sights.ensures.changes first going) (c.in_ok-empty_objects.ensures.changes second on_one)
    (c.in_ok-put_objects.ensures.fills third on_two) (c.put_sights.ensures.fills clean on_three)
