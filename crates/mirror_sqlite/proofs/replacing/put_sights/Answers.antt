use Rattle.std.proofs.Common.{◌<◌, length, ◌∙◌, arith}
use Rattle.sqlite.specs.Held.{state}
use Rattle.sqlite.specs.State.{HasCleanDisk}
use Rattle.mirror_store.specs.Rows.{IsSightRow}
use Rattle.mirror_sqlite.proofs.Putting.{all_at, goes_on, sights_more}
use Rattle.mirror_sqlite.proofs.replacing.put_sights.Goals as goal

pub add_sight-requires : goal.add_sight-requires
add_sight-requires g c = all_at IsSightRow c.args.rows.now c.loop-row.row-index _ c.requires.range (omega arith)

pub loop-row-preserved : goal.loop-row-preserved
loop-row-preserved g c =
    let old = state g.S.Store c.args.tx.now.conn.now in
    let mid = state g.S.Store c.loop-row.tx.conn.now in
    let new = state g.S.Store c.add_sight.new.tx.conn.now in
    let low : c.loop-row.row-index < length c.args.rows.now = omega arith in (
      c.add_sight.ensures.same_reference ∙ c.loop-row.invariant.0,
      omega (arith, c.add_sight.ensures.survives.clean, c.loop-row.invariant.1),
      λ clean going.
          let before : HasCleanDisk mid = omega (arith, c.add_sight.ensures.survives.clean, clean) in
          let far = c.loop-row.invariant.2 before going in
          let shows = c.in_ok-add_sight.ensures.inside clean far.0.going in (
            goes_on old mid new far.0 shows,
            sights_more old mid new c.args.rows.now c.loop-row.row-index _ c.requires.order low far.1
                (c.in_ok-add_sight.ensures.changes clean far.0.going),
          ),
    )
