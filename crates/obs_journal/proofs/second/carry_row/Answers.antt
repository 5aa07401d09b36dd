use Rattle.std.proofs.Common.{◌∷◌, [], List, subst}
use Rattle.std.specs.List.{AllByRecursion}
use Rattle.obs_journal.specs.Parcels.{IsParcel}
use Rattle.obs_journal.specs.Formats.{first_seal, row}
use Rattle.obs_journal.specs.declared.format.Format.TheVariants.{Chained}
use Rattle.obs_journal.specs.Moves.{Adds}
use Rattle.obs_journal.specs.Opening.{parcels_of}
use Rattle.obs_journal.specs.declared.opening.Placed.{Placed}
use Rattle.obs_journal.proofs.Moves.{idle_carried, during_row, during_sync, during_byte, laid, chained, reads_whole, known_grown}
use Rattle.obs_journal.proofs.second.carry_row.Goals as goal

pub returns-in_err-shut-clause-any_moment : goal.returns-in_err-shut-clause-any_moment
returns-in_err-shut-clause-any_moment g c = idle_carried g.D.Disk.reads g.D.Disk.leaves g.D.Disk.moment g.D.Disk.since g.met.D.Disk.as_read g.met.D.Disk.known g.met.D.Disk.counts_now g.met.D.Disk.only_now (parcels_of c.args.parcels.now) c.shut.ensures.any_moment

pub returns-in_err-reached-clause-any_moment : goal.returns-in_err-reached-clause-any_moment
returns-in_err-reached-clause-any_moment g c =
    idle_carried g.D.Disk.reads g.D.Disk.leaves g.D.Disk.moment g.D.Disk.since g.met.D.Disk.as_read g.met.D.Disk.known g.met.D.Disk.counts_now g.met.D.Disk.only_now (parcels_of c.args.parcels.now) (during_row g.D.Disk.reads g.D.Disk.leaves g.D.Disk.moment g.D.Disk.since g.met.D.Disk.as_read g.met.D.Disk.known g.met.D.Disk.counts_now g.met.D.Disk.only_now (parcels_of c.args.parcels.now) c.shut.ensures.any_moment c.in_ok-shut.ensures.shut c.write_row.ensures.shut)

pub returns-in_err-sync-clause-any_moment : goal.returns-in_err-sync-clause-any_moment
returns-in_err-sync-clause-any_moment g c =
    idle_carried g.D.Disk.reads g.D.Disk.leaves g.D.Disk.moment g.D.Disk.since g.met.D.Disk.as_read g.met.D.Disk.known g.met.D.Disk.counts_now g.met.D.Disk.only_now (parcels_of c.args.parcels.now) (during_sync g.D.Disk.reads g.D.Disk.leaves g.D.Disk.moment g.D.Disk.since g.met.D.Disk.as_read g.met.D.Disk.known g.met.D.Disk.counts_now g.met.D.Disk.only_now (parcels_of c.args.parcels.now) c.shut.ensures.any_moment c.in_ok-shut.ensures.shut c.in_ok-reached.ensures.adds c.write_row.ensures.shut c.sync.ensures.time c.sync.ensures.images)

pub returns-in_err-open_gate-clause-any_moment : goal.returns-in_err-open_gate-clause-any_moment
returns-in_err-open_gate-clause-any_moment g c =
    during_byte g.D.Disk.reads g.D.Disk.leaves g.D.Disk.moment g.D.Disk.since g.met.D.Disk.as_read g.met.D.Disk.known g.met.D.Disk.counts_now g.met.D.Disk.only_now (parcels_of c.args.parcels.now) (subst (λ (l : List Placed). AllByRecursion IsParcel (parcels_of l)) c.as_slice.ensures c.in_ok-reached.ensures.fit)
    (during_sync g.D.Disk.reads g.D.Disk.leaves g.D.Disk.moment g.D.Disk.since g.met.D.Disk.as_read g.met.D.Disk.known g.met.D.Disk.counts_now g.met.D.Disk.only_now (parcels_of c.args.parcels.now) c.shut.ensures.any_moment c.in_ok-shut.ensures.shut c.in_ok-reached.ensures.adds c.write_row.ensures.shut c.sync.ensures.time c.sync.ensures.images)
    (laid g.D.Disk.reads g.D.Disk.leaves g.D.Disk.moment g.D.Disk.since g.met.D.Disk.as_read g.met.D.Disk.known g.met.D.Disk.counts_now g.met.D.Disk.only_now (parcels_of c.args.parcels.now) c.in_ok-shut.ensures.shut (subst (λ (l : List Placed). Adds g.D.Disk.reads g.D.Disk.leaves 1 (row Chained (first_seal Chained) (parcels_of l) (0 ∷ [])) c.shut.new.second c.write_row.new.second) c.as_slice.ensures c.in_ok-reached.ensures.adds) c.sync.ensures.reads c.sync.ensures.time c.sync.ensures.images c.in_ok-sync.ensures.safe)
    c.open_gate.ensures.time c.open_gate.ensures.images

pub returns-clause-any_moment : goal.returns-clause-any_moment
returns-clause-any_moment g c =
    during_byte g.D.Disk.reads g.D.Disk.leaves g.D.Disk.moment g.D.Disk.since g.met.D.Disk.as_read g.met.D.Disk.known g.met.D.Disk.counts_now g.met.D.Disk.only_now (parcels_of c.args.parcels.now) (subst (λ (l : List Placed). AllByRecursion IsParcel (parcels_of l)) c.as_slice.ensures c.in_ok-reached.ensures.fit)
    (during_sync g.D.Disk.reads g.D.Disk.leaves g.D.Disk.moment g.D.Disk.since g.met.D.Disk.as_read g.met.D.Disk.known g.met.D.Disk.counts_now g.met.D.Disk.only_now (parcels_of c.args.parcels.now) c.shut.ensures.any_moment c.in_ok-shut.ensures.shut c.in_ok-reached.ensures.adds c.write_row.ensures.shut c.sync.ensures.time c.sync.ensures.images)
    (laid g.D.Disk.reads g.D.Disk.leaves g.D.Disk.moment g.D.Disk.since g.met.D.Disk.as_read g.met.D.Disk.known g.met.D.Disk.counts_now g.met.D.Disk.only_now (parcels_of c.args.parcels.now) c.in_ok-shut.ensures.shut (subst (λ (l : List Placed). Adds g.D.Disk.reads g.D.Disk.leaves 1 (row Chained (first_seal Chained) (parcels_of l) (0 ∷ [])) c.shut.new.second c.write_row.new.second) c.as_slice.ensures c.in_ok-reached.ensures.adds) c.sync.ensures.reads c.sync.ensures.time c.sync.ensures.images c.in_ok-sync.ensures.safe)
    c.open_gate.ensures.time c.open_gate.ensures.images

pub returns-clause-carried : goal.returns-clause-carried
returns-clause-carried g c =
    chained g.D.Disk.reads g.D.Disk.leaves g.D.Disk.moment g.D.Disk.since g.met.D.Disk.as_read g.met.D.Disk.known g.met.D.Disk.counts_now g.met.D.Disk.only_now (parcels_of c.args.parcels.now) (subst (λ (l : List Placed). AllByRecursion IsParcel (parcels_of l)) c.as_slice.ensures c.in_ok-reached.ensures.fit)
    (laid g.D.Disk.reads g.D.Disk.leaves g.D.Disk.moment g.D.Disk.since g.met.D.Disk.as_read g.met.D.Disk.known g.met.D.Disk.counts_now g.met.D.Disk.only_now (parcels_of c.args.parcels.now) c.in_ok-shut.ensures.shut (subst (λ (l : List Placed). Adds g.D.Disk.reads g.D.Disk.leaves 1 (row Chained (first_seal Chained) (parcels_of l) (0 ∷ [])) c.shut.new.second c.write_row.new.second) c.as_slice.ensures c.in_ok-reached.ensures.adds) c.sync.ensures.reads c.sync.ensures.time c.sync.ensures.images c.in_ok-sync.ensures.safe)
    c.in_ok-open_gate.ensures.safe

pub returns-clause-file : goal.returns-clause-file
returns-clause-file g c =
    reads_whole g.D.Disk.reads g.D.Disk.leaves g.D.Disk.moment g.D.Disk.since g.met.D.Disk.as_read g.met.D.Disk.known g.met.D.Disk.counts_now g.met.D.Disk.only_now (parcels_of c.args.parcels.now) _ _
    (known_grown _ _ _ _ (row Chained (first_seal Chained) (parcels_of c.args.parcels.now) (0 ∷ [])) c.in_ok-shut.ensures.wrote (subst (λ (l : List Placed). Adds g.D.Disk.reads g.D.Disk.leaves 1 (row Chained (first_seal Chained) (parcels_of l) (0 ∷ [])) c.shut.new.second c.write_row.new.second) c.as_slice.ensures c.in_ok-reached.ensures.adds).grown c.sync.ensures.reads)
    (laid g.D.Disk.reads g.D.Disk.leaves g.D.Disk.moment g.D.Disk.since g.met.D.Disk.as_read g.met.D.Disk.known g.met.D.Disk.counts_now g.met.D.Disk.only_now (parcels_of c.args.parcels.now) c.in_ok-shut.ensures.shut (subst (λ (l : List Placed). Adds g.D.Disk.reads g.D.Disk.leaves 1 (row Chained (first_seal Chained) (parcels_of l) (0 ∷ [])) c.shut.new.second c.write_row.new.second) c.as_slice.ensures c.in_ok-reached.ensures.adds) c.sync.ensures.reads c.sync.ensures.time c.sync.ensures.images c.in_ok-sync.ensures.safe)
    c.in_ok-open_gate.ensures.wrote
