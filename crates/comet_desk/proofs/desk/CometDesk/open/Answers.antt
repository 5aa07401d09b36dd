use Rattle.std.proofs.Common.{Bool, Ok, refl, ap, le_refl}
use Rattle.disk_model.specs.Moments.{during_nothing}
use Rattle.obs_journal.specs.declared.fault.OpenFault.TheVariants.{DiskFault, NoMemory}
use Rattle.act_model.specs.Deeds.{deeds}
use Rattle.mpc_desk.specs.Disks.{disk_words}
use Rattle.comet_desk.proofs.Ended.{disk_is_no_damage, memory_is_no_damage, memory_is_no_disk, unopened_yet, ends_chain, ends_begun}
use Rattle.comet_desk.proofs.Replayed.{over_none}
use Rattle.comet_desk.proofs.desk.CometDesk.open.Goals as goal

pub returns-in_default : goal.returns-in_default
returns-in_default g c =
    let desk = deeds (g.V.Shelf.history c.args.shelf.now) in
    record {
      ends =
          unopened_yet (disk_words g.D.Disk.reads g.D.Disk.leaves g.D.Disk.moment g.D.Disk.since g.D.Disk.faults) g.met.D.Disk.as_read c.one_chain.ensures.in_force c.args.founder c.args.limit desk (c.damage.ensures.none c.args.founder desk) c.args.disk c.args.disk
          (record { same = refl; no_image = during_nothing c.args.disk (λ _. ⊥) }) (le_refl _) NoMemory c.args.disk (record { same = refl; no_image = during_nothing c.args.disk (λ _. ⊥) }) (le_refl _) memory_is_no_damage (λ is. absurd (memory_is_no_disk is));
    }

pub returns-in_default-in_force : goal.returns-in_default-in_force
returns-in_default-in_force g c =
    let desk = deeds (g.V.Shelf.history c.args.shelf.now) in
    record {
      ends =
          unopened_yet (disk_words g.D.Disk.reads g.D.Disk.leaves g.D.Disk.moment g.D.Disk.since g.D.Disk.faults) g.met.D.Disk.as_read c.one_chain.ensures.in_force c.args.founder c.args.limit desk (c.damage.ensures.none c.args.founder desk) c.args.disk c.args.disk
          (record { same = refl; no_image = during_nothing c.args.disk (λ _. ⊥) }) (le_refl _) DiskFault c.in_force.new.disk c.in_force.ensures.unwritten c.in_force.ensures.counts disk_is_no_damage (λ is. c.in_default-in_force.ensures.cause);
    }

pub open_chain-requires-clause-over : goal.open_chain-requires-clause-over
open_chain-requires-clause-over g c = over_none (deeds (g.V.Shelf.history c.args.shelf.now)) c.in-Ok.register c.in-Ok.ensures.entries c.in-Ok.ensures.comets

pub returns-then-is_in_force : goal.returns-then-is_in_force
returns-then-is_in_force g c =
    let desk = deeds (g.V.Shelf.history c.args.shelf.now) in
    let did = c.open_chain.ensures in
    record {
      ends =
          ends_chain (disk_words g.D.Disk.reads g.D.Disk.leaves g.D.Disk.moment g.D.Disk.since g.D.Disk.faults) g.met.D.Disk.as_read c.one_chain.ensures.in_force c.args.founder c.args.limit desk (c.damage.ensures.none c.args.founder desk) c.args.disk c.in_force.new.disk
          c.in_force.ensures.unwritten c.in_force.ensures.counts c.in-Ok.register.founder c.in-Ok.ensures.founder c.open_chain.result did.stands did.settled did.beside did.at_rest did.founder did.limit did.damaged did.unwritten did.counts did.cause;
    }

pub returns : goal.returns
returns g c =
    let desk = deeds (g.V.Shelf.history c.args.shelf.now) in
    let did = c.begin.ensures in
    record {
      ends =
          ends_begun (disk_words g.D.Disk.reads g.D.Disk.leaves g.D.Disk.moment g.D.Disk.since g.D.Disk.faults) g.met.D.Disk.as_read c.one_chain.ensures.in_force c.args.founder c.args.limit desk (c.damage.ensures.none c.args.founder desk) c.args.disk c.in_force.new.disk
          c.in_force.ensures.unwritten c.in_force.ensures.counts c.in-Ok.register.founder c.in-Ok.ensures.founder (c.in-Ok-in_force.ensures.idle (ap (λ (b : Bool). Ok b) c.if-is_in_force.false)) c.begin.result did.none did.settled
          (did.beside desk (over_none desk c.in-Ok.register c.in-Ok.ensures.entries c.in-Ok.ensures.comets))
          did.at_rest did.founder did.limit did.fault did.any_moment did.counts did.cause;
    }
