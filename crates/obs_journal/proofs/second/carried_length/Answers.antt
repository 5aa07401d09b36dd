use Rattle.std.proofs.Common.{◌+◌, [], ◌∷◌, take, arith, ap}
use Rattle.obs_journal.specs.Formats.{row_length_in}
use Rattle.obs_journal.specs.declared.format.Format.TheVariants.{Chained}
use Rattle.obs_journal.specs.Opening.{parcels_of}
use Rattle.obs_journal.proofs.Rows.{row_length-append}
use Rattle.obs_journal.proofs.Moves.{parcels_of-more, room_left}
use Rattle.obs_journal.proofs.second.carried_length.Goals as goal

pub returns-then-room-length-clause-too_long : goal.returns-then-room-length-clause-too_long
returns-then-room-length-clause-too_long c = λ _.
    let places = c.as_slice-placed-items.result.now in
    let i = c.loop-placed.placed-index in
    let left = room_left places i c.placed-item.result c.loop-placed-test.true c.placed-item.is in
    omega (arith, c.loop-placed.invariant, left, ap (λ l. row_length_in Chained (parcels_of l)) c.as_slice-placed-items.ensures, ap (λ l. row_length_in Chained (parcels_of (take i l))) c.as_slice-placed-items.ensures, c.if-room-length.true, c.room-room.ensures)

pub loop-placed-preserved : goal.loop-placed-preserved
loop-placed-preserved c =
    let places = c.as_slice-placed-items.result.now in
    let i = c.loop-placed.placed-index in
    let more = ap (λ l. row_length_in Chained l) (parcels_of-more places i c.placed-item.result c.loop-placed-test.true c.placed-item.is) in
    omega (
      arith,
      c.loop-placed.invariant,
      more,
      row_length-append Chained (parcels_of (take i places)) (c.placed-item.result.parcel ∷ []),
      ap (λ l. row_length_in Chained (parcels_of (take i l))) c.as_slice-placed-items.ensures,
      ap (λ l. row_length_in Chained (parcels_of (take (i + 1) l))) c.as_slice-placed-items.ensures,
      c.room-room.ensures,
    )
