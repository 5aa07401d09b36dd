use Rattle.std.proofs.Common.{◌+◌, ◌∷◌, [], take, arith, ap, subst}
use Rattle.std.proofs.lemmas.List.{take_all}
use Rattle.obs_journal.specs.Formats.{first_seal, row}
use Rattle.obs_journal.specs.declared.format.Format.TheVariants.{Chained}
use Rattle.obs_journal.specs.Moves.{Adds}
use Rattle.obs_journal.specs.Opening.{parcels_of}
use Rattle.obs_journal.specs.declared.opening.Placed.{Placed}
use Rattle.std.specs.Prelude.{List}
use Rattle.obs_journal.proofs.Moves.{room_left, more_written, all_written, stays_joined}
use Rattle.obs_journal.proofs.second.write_row.Goals as goal

pub write_parcel-requires-clause-space : goal.write_parcel-requires-clause-space
write_parcel-requires-clause-space g c =
    omega (arith, c.loop-placed.invariant.written.gate_is, room_left c.args.parcels.now c.loop-placed.placed-index c.placed-item.result c.loop-placed-test.true c.placed-item.is, c.requires)

pub overflow_add-gate : goal.overflow_add-gate
overflow_add-gate g c = record {
  fits = omega (arith, c.loop-placed.invariant.written.gate_is, room_left c.args.parcels.now c.loop-placed.placed-index c.placed-item.result c.loop-placed-test.true c.placed-item.is, c.requires, c.room-gate.ensures);
}

pub loop-placed-preserved : goal.loop-placed-preserved
loop-placed-preserved g c =
    let h = c.loop-placed.invariant in
    record {
      written = more_written g.D.Disk.reads g.D.Disk.leaves c.args.parcels.now c.loop-placed.placed-index c.loop-placed.gate _ c.loop-placed.last c.in_ok-last.last c.placed-item.result c.loop-placed-test.true c.placed-item.is h.written (ap (λ n. c.loop-placed.gate + n) c.room-gate.ensures)
          c.in_ok-last.ensures.fits c.in_ok-last.ensures.digest c.in_ok-last.ensures.adds;
      shut = stays_joined h.written.adds h.shut c.write_parcel.ensures.shut;
      counts = omega (arith, h.counts, c.write_parcel.ensures.counts);
    }

pub returns-clause-adds : goal.returns-clause-adds
returns-clause-adds g c =
    subst (λ (l : List Placed). Adds g.D.Disk.reads g.D.Disk.leaves 1 (row Chained (first_seal Chained) (parcels_of l) (0 ∷ [])) c.args.second.now c.add.new.second) (take_all c.loop-placed.placed-index c.args.parcels.now (omega (arith, c.loop-placed-test.false)))
    (all_written g.D.Disk.reads g.D.Disk.leaves (parcels_of (take c.loop-placed.placed-index c.args.parcels.now)) c.loop-placed.gate c.loop-placed.last c.loop-placed.invariant.written c.in_ok-add.ensures.adds)

pub returns-in_err-last-clause-shut : goal.returns-in_err-last-clause-shut
returns-in_err-last-clause-shut g c = stays_joined c.loop-placed.invariant.written.adds c.loop-placed.invariant.shut c.write_parcel.ensures.shut

pub returns-in_err-add-clause-shut : goal.returns-in_err-add-clause-shut
returns-in_err-add-clause-shut g c = stays_joined c.loop-placed.invariant.written.adds c.loop-placed.invariant.shut c.add.ensures.shut

pub returns-clause-shut : goal.returns-clause-shut
returns-clause-shut g c = stays_joined c.loop-placed.invariant.written.adds c.loop-placed.invariant.shut c.add.ensures.shut
