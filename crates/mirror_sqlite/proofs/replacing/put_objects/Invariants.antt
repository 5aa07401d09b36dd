use Rattle.std.proofs.Common.{◌≡◌, ◌≤◌, take, IsTrue}
use Rattle.sqlite.specs.Held.{state}
use Rattle.sqlite.specs.State.{HasCleanDisk}
use Rattle.sqlite.specs.View.{doubt}
use Rattle.mirror_sqlite.specs.Holding.{Goes, FillsObjects}
use Rattle.mirror_sqlite.proofs.replacing.put_objects.Given as goal

abbrev pub invariant-loop-row : goal.invariant-loop-row
invariant-loop-row g l =
    let old = state g.S.Store l.fn.tx.conn.now in
    let now = state g.S.Store l.tx.conn.now in
    (l.tx.conn.ghost_name ≡ l.initial.tx.conn.ghost_name) × (doubt old.is_clean ≤ doubt now.is_clean)
    × (HasCleanDisk now → IsTrue old.in_transaction → Goes old now × FillsObjects (take l.row-index l.rows) old now)
