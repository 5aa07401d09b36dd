use Rattle.std.proofs.Common.{Bool, Ok, refl, ap, subst, ◌∙◌, le_refl}
use Rattle.std.specs.Prelude.{IfSome}
use Rattle.disk_model.specs.Moments.{during_nothing}
use Rattle.obs_journal.specs.declared.fault.OpenFault.TheVariants.{DiskFault, NoMemory}
use Rattle.act_bodies.specs.declared.key.Key.{Key}
use Rattle.act_model.specs.Legal.{IsLegal}
use Rattle.mpc_desk.specs.Disks.{disk_words}
use Rattle.mpc_desk.specs.Opening.{IsDamagedFirst, IsDamagedSecond}
use Rattle.mpc_desk.proofs.Ended.{disk_is_no_damage, memory_is_no_damage, memory_is_no_disk, unopened_yet, opened_second, unopened_second, opened_moved, unopened_moved}
use Rattle.mpc_desk.proofs.desk.Desk.open.Goals as goal

pub returns-in_default : goal.returns-in_default
returns-in_default g c = record {
  ends =
      unopened_yet (disk_words g.D.Disk.reads g.D.Disk.leaves g.D.Disk.moment g.D.Disk.since g.D.Disk.faults) g.met.D.Disk.as_read g.met.D.Disk.known g.met.D.Disk.counts_now g.met.D.Disk.only_now c.one_list.ensures c.one_chain.ensures.one c.one_chain.ensures.in_force c.args.founder (c.damage.ensures.first c.args.founder) (c.damage.ensures.second c.args.founder) (c.damage.ensures.in_force c.args.founder) c.args.disk c.args.second c.args.second (record { same = refl; no_image = during_nothing c.args.second (λ _. ⊥) }) (le_refl _) NoMemory c.args.second
      (record { same = refl; no_image = during_nothing c.args.second (λ _. ⊥) }) (le_refl _) memory_is_no_damage (λ is. absurd (memory_is_no_disk is));
}

pub returns-in_default-in_force : goal.returns-in_default-in_force
returns-in_default-in_force g c = record {
  ends =
      unopened_yet (disk_words g.D.Disk.reads g.D.Disk.leaves g.D.Disk.moment g.D.Disk.since g.D.Disk.faults) g.met.D.Disk.as_read g.met.D.Disk.known g.met.D.Disk.counts_now g.met.D.Disk.only_now c.one_list.ensures c.one_chain.ensures.one c.one_chain.ensures.in_force c.args.founder (c.damage.ensures.first c.args.founder) (c.damage.ensures.second c.args.founder) (c.damage.ensures.in_force c.args.founder) c.args.disk c.args.second c.in_force.new.disk c.in_force.ensures.unwritten c.in_force.ensures.counts DiskFault c.in_force.new.disk
      c.in_force.ensures.unwritten (le_refl _) disk_is_no_damage (λ is. c.in_default-in_force.ensures.cause);
}

pub returns-in-Ok-open_second : goal.returns-in-Ok-open_second
returns-in-Ok-open_second g c =
    let desk = c.in-Ok-open_second.chained in
    let did = c.in-Ok-open_second.ensures in
    record {
      ends =
          opened_second (disk_words g.D.Disk.reads g.D.Disk.leaves g.D.Disk.moment g.D.Disk.since g.D.Disk.faults) g.met.D.Disk.as_read g.met.D.Disk.known g.met.D.Disk.counts_now g.met.D.Disk.only_now c.one_list.ensures c.one_chain.ensures.one c.one_chain.ensures.in_force c.args.founder (c.damage.ensures.first c.args.founder) (c.damage.ensures.second c.args.founder) (c.damage.ensures.in_force c.args.founder) c.args.disk c.args.second c.in_force.new.disk c.in_force.ensures.unwritten c.in_force.ensures.counts desk.disk did.unwritten did.counts c.args.limit desk refl
          (did.founder ∙ c.in-Ok.ensures.founder) did.limit did.settled did.stands (subst (λ (k : Key). IsLegal k desk.state.settled) c.in-Ok.ensures.founder did.legal) did.at_rest;
    }

pub returns-in-Err : goal.returns-in-Err
returns-in-Err g c =
    let did = c.in-Err.ensures in
    record {
      ends =
          unopened_second (disk_words g.D.Disk.reads g.D.Disk.leaves g.D.Disk.moment g.D.Disk.since g.D.Disk.faults) g.met.D.Disk.as_read g.met.D.Disk.known g.met.D.Disk.counts_now g.met.D.Disk.only_now c.one_list.ensures c.one_chain.ensures.one c.one_chain.ensures.in_force c.args.founder (c.damage.ensures.first c.args.founder) (c.damage.ensures.second c.args.founder) (c.damage.ensures.in_force c.args.founder) c.args.disk c.args.second c.in_force.new.disk c.in_force.ensures.unwritten c.in_force.ensures.counts c.in-Err.second did.unwritten did.counts c.in-Err.fault did.cause
          (λ file offset is.
          let d = did.damaged file offset is in
          (d.0, subst (λ (k : Key). IfSome (g.D.Disk.reads c.in_force.new.disk) (λ bytes. IsDamagedSecond k bytes offset)) c.in-Ok.ensures.founder d.1));
    }

pub returns-in-Ok-move_over : goal.returns-in-Ok-move_over
returns-in-Ok-move_over g c =
    let desk = c.in-Ok-move_over.chained in
    let did = c.in-Ok-move_over.ensures.ends in
    record {
      ends =
          opened_moved (disk_words g.D.Disk.reads g.D.Disk.leaves g.D.Disk.moment g.D.Disk.since g.D.Disk.faults) g.met.D.Disk.as_read g.met.D.Disk.known g.met.D.Disk.counts_now g.met.D.Disk.only_now c.one_list.ensures c.one_chain.ensures.one c.one_chain.ensures.in_force c.args.founder (c.damage.ensures.first c.args.founder) (c.damage.ensures.second c.args.founder) (c.damage.ensures.in_force c.args.founder) c.args.disk c.args.second c.in_force.new.disk c.in_force.ensures.unwritten c.in_force.ensures.counts (c.in-Ok-in_force.ensures.idle (ap (λ (b : Bool). Ok b) c.if-is_in_force.false)) c.move_over.new.first desk.disk did.first_moment did.first_counts did.second_counts
          c.args.limit desk refl (did.founder_is ∙ c.in-Ok.ensures.founder) did.limit_is did.settled did.stood (subst (λ (k : Key). IsLegal k desk.state.settled) c.in-Ok.ensures.founder did.legal) did.at_rest did.carried;
    }

pub returns-in-Err-move_over : goal.returns-in-Err-move_over
returns-in-Err-move_over g c =
    let did = c.in-Err-move_over.ensures.ends in
    record {
      ends =
          unopened_moved (disk_words g.D.Disk.reads g.D.Disk.leaves g.D.Disk.moment g.D.Disk.since g.D.Disk.faults) g.met.D.Disk.as_read g.met.D.Disk.known g.met.D.Disk.counts_now g.met.D.Disk.only_now c.one_list.ensures c.one_chain.ensures.one c.one_chain.ensures.in_force c.args.founder (c.damage.ensures.first c.args.founder) (c.damage.ensures.second c.args.founder) (c.damage.ensures.in_force c.args.founder) c.args.disk c.args.second c.in_force.new.disk c.in_force.ensures.unwritten c.in_force.ensures.counts (c.in-Ok-in_force.ensures.idle (ap (λ (b : Bool). Ok b) c.if-is_in_force.false)) c.move_over.new.first c.in-Err-move_over.second did.first_moment did.counts.first did.counts.second
          c.in-Err-move_over.fault did.second_moment did.cause
          (λ file offset is.
          let d = did.damaged file offset is in
          (d.0, subst (λ (k : Key). IfSome (g.D.Disk.reads c.args.disk) (λ bytes. IsDamagedFirst k bytes offset)) c.in-Ok.ensures.founder d.1))
          did.first_unwritten did.second_uncalled;
    }
