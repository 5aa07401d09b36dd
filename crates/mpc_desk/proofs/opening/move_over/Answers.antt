use Rattle.std.proofs.Common.{◌≡◌, ◌<◌, sym, ap, subst, ◌∙◌, refl, arith}
use Rattle.std.specs.Prelude.{◌^◌, Err}
use Rattle.obs_journal.specs.declared.fault.OpenFault.{OpenFault}
use Rattle.obs_journal.specs.Opening.{parcels_of}
use Rattle.act_bodies.specs.declared.key.Key.{Key}
use Rattle.act_model.specs.Legal.{IsLegal}
use Rattle.mpc_desk.specs.Disks.{disk_words}
use Rattle.mpc_desk.proofs.Opened.{opened_desk}
use Rattle.mpc_desk.proofs.Moving.{err_same, not_moved, move_failed, moved_over}
use Rattle.mpc_desk.proofs.opening.move_over.Goals as goal

pub invariant_of-result : goal.invariant_of-result
invariant_of-result g c =
    opened_desk g.D.Disk.leaves c.take_first.new.core c.in-Ok-carried.journal (parcels_of c.in-Ok.parcels) c.in-Ok-carried.ensures.stands
    (let fits : c.in-Ok-carried.journal.reached.position < 2 ^ 64 = omega (arith, c.position.ensures, c.position.type_inv) in fits)
    c.in-Ok.ensures.taken (subst (λ (k : Key). IsLegal k c.take_first.new.core.history) (sym c.take_first.ensures.founder) c.in-Ok.ensures.legal) c.in-Ok.ensures.acts

pub returns-in-Err : goal.returns-in-Err
returns-in-Err g c =
    let on = disk_words g.D.Disk.reads g.D.Disk.leaves g.D.Disk.moment g.D.Disk.since g.D.Disk.faults in
    let did = c.take_first.ensures in
    let as_result : (f : OpenFault) → c.in-Err.fault ≡ f → c.take_first.result ≡ Err f = λ f is. c.in-Err.is ∙ ap (λ (x : OpenFault). Err x) is in
    record {
      ends =
          not_moved on c.args.core.founder c.args.first.now c.args.second c.take_first.new.first did.any_moment did.counts c.in-Err.fault
          (λ is. did.cause (as_result _ is))
          (λ file offset is. did.damaged file offset (as_result _ is))
          (λ other known. c.in-Err.ensures.unwritten refl (λ is. other (err_same _ _ is)) known);
    }

pub returns-in-Err-carried : goal.returns-in-Err-carried
returns-in-Err-carried g c =
    let on = disk_words g.D.Disk.reads g.D.Disk.leaves g.D.Disk.moment g.D.Disk.since g.D.Disk.faults in
    let did = c.take_first.ensures in
    record {
      ends =
          move_failed on c.args.core.founder c.args.first.now c.args.second c.take_first.new.first did.any_moment did.counts
          c.in-Err-carried.second (parcels_of c.in-Ok.parcels) c.in-Ok.ensures.spelled c.in-Err-carried.ensures.any_moment c.in-Err-carried.ensures.counts c.in-Err-carried.ensures.cause;
    }

pub returns : goal.returns
returns g c =
    let on = disk_words g.D.Disk.reads g.D.Disk.leaves g.D.Disk.moment g.D.Disk.since g.D.Disk.faults in
    let did = c.take_first.ensures in
    record {
      ends =
          moved_over on c.args.core.founder c.args.first.now c.args.second c.take_first.new.first did.any_moment did.counts c.args.limit
          c.take_first.new.core c.in-Ok-carried.journal (parcels_of c.in-Ok.parcels) did.founder c.in-Ok.ensures.spelled c.in-Ok-carried.ensures.any_moment c.in-Ok-carried.ensures.counts
          c.in-Ok-carried.ensures.stands (let fits : c.in-Ok-carried.journal.reached.position < 2 ^ 64 = omega (arith, c.position.ensures, c.position.type_inv) in fits)
          c.in-Ok.ensures.taken (subst (λ (k : Key). IsLegal k c.take_first.new.core.history) (sym did.founder) c.in-Ok.ensures.legal) c.in-Ok.ensures.acts;
    }
