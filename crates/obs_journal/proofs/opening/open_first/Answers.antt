use Rattle.std.proofs.Common.{◌≡◌, ◌↔◌, length, subst}
use Rattle.std.proofs.lemmas.Result.{err_from_is_err_and}
use Rattle.std.specs.Prelude.{IfSome, IsTrue}
use Rattle.obs_journal.specs.Files.{IsFresh, IsRow, IsBrokenIn}
use Rattle.obs_journal.specs.declared.format.Format.TheVariants.{Plain}
use Rattle.obs_journal.specs.Opening.{parcels_of}
use Rattle.obs_journal.proofs.Quiet.{unwritten_joined}
use Rattle.obs_journal.proofs.Recovery.{damaged_there, never_damaged, row_known, during_fresh}
use Rattle.obs_journal.proofs.opening.open_first.Goals as goal

pub returns-then-not-branch-clause-rows : goal.returns-then-not-branch-clause-rows
returns-then-not-branch-clause-rows g c =
    let same = (unwritten_joined c.safe_end.ensures.unwritten c.is_fresh.ensures.unwritten).same in
    let parcels = parcels_of c.in_ok-parcels.parcels in
    row_known g.D.Disk.reads g.D.Disk.leaves g.D.Disk.moment g.D.Disk.since g.met.D.Disk.counts_now g.met.D.Disk.only_now Plain c.in_ok-end.end parcels c.in_ok-end.ensures.end c.in_ok-end.ensures.safe
    (unwritten_joined c.is_fresh.ensures.unwritten c.read_row.ensures.unwritten) (subst (λ r. IfSome r (λ file. length file ≡ c.in_ok-end.end → IsRow file parcels)) same c.in_ok-parcels.ensures.row)

pub returns-in_err-parcels-clause-damaged : goal.returns-in_err-parcels-clause-damaged
returns-in_err-parcels-clause-damaged g c = λ file offset is.
    let gave = err_from_is_err_and c.from_residual-in_err-parcels.result c.from_residual-in_err-parcels.ensures.1 in
    let damaged = c.read_row.ensures.damaged file offset (cc (c.in_err-parcels.was, gave.1, gave.2, is)) in (
      damaged.0,
      damaged_there (g.D.Disk.reads c.args.disk.now) c.in_ok-end.end offset c.in_ok-is_fresh.field-0 c.if-not-branch.true c.in_ok-end.ensures.end
          (subst (λ r. IfSome r (λ bytes. length bytes ≡ c.in_ok-end.end → (IsTrue c.in_ok-is_fresh.field-0 ↔ IsFresh bytes))) c.safe_end.ensures.unwritten.same c.in_ok-is_fresh.ensures.fresh)
          (subst (λ r. IfSome r (λ bytes. length bytes ≡ c.in_ok-end.end → IsBrokenIn Plain bytes offset)) (unwritten_joined c.safe_end.ensures.unwritten c.is_fresh.ensures.unwritten).same damaged.1),
    )

pub returns-in_err-parcels-clause-sound : goal.returns-in_err-parcels-clause-sound
returns-in_err-parcels-clause-sound g c = λ file offset is known spells.
    never_damaged (g.D.Disk.reads c.args.disk.now) offset (returns-in_err-parcels-clause-damaged g c file offset is).1 known (λ bytes bytes_are. spells bytes (g.met.D.Disk.as_read c.args.disk.now bytes bytes_are))

pub returns-in_err-write_and_sync-clause-any_moment : goal.returns-in_err-write_and_sync-clause-any_moment
returns-in_err-write_and_sync-clause-any_moment g c =
    during_fresh g.D.Disk.reads g.D.Disk.leaves g.D.Disk.moment g.D.Disk.since g.met.D.Disk.counts_now g.met.D.Disk.only_now c.in_ok-end.end c.in_ok-is_fresh.field-0 c.if-not-branch.false c.in_ok-end.ensures.end c.in_ok-end.ensures.safe
    (subst (λ r. IfSome r (λ file. length file ≡ c.in_ok-end.end → (IsTrue c.in_ok-is_fresh.field-0 ↔ IsFresh file))) c.safe_end.ensures.unwritten.same c.in_ok-is_fresh.ensures.fresh)
    (unwritten_joined c.safe_end.ensures.unwritten c.is_fresh.ensures.unwritten) c.is_fresh.ensures.unwritten c.write_and_sync.ensures.time c.write_and_sync.ensures.images

pub returns-clause-any_moment : goal.returns-clause-any_moment
returns-clause-any_moment g c =
    during_fresh g.D.Disk.reads g.D.Disk.leaves g.D.Disk.moment g.D.Disk.since g.met.D.Disk.counts_now g.met.D.Disk.only_now c.in_ok-end.end c.in_ok-is_fresh.field-0 c.if-not-branch.false c.in_ok-end.ensures.end c.in_ok-end.ensures.safe
    (subst (λ r. IfSome r (λ file. length file ≡ c.in_ok-end.end → (IsTrue c.in_ok-is_fresh.field-0 ↔ IsFresh file))) c.safe_end.ensures.unwritten.same c.in_ok-is_fresh.ensures.fresh)
    (unwritten_joined c.safe_end.ensures.unwritten c.is_fresh.ensures.unwritten) c.is_fresh.ensures.unwritten c.write_and_sync.ensures.time c.write_and_sync.ensures.images
