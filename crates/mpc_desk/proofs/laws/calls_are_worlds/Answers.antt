use Rattle.mpc_desk.specs.Disks.{disk_words}
use Rattle.mpc_desk.proofs.WorldLemmas.{calls_world, calls_acknowledged}
use Rattle.mpc_desk.proofs.laws.calls_are_worlds.Goals as goal

pub returns-clause-world : goal.returns-clause-world
returns-clause-world g c =
    λ founder limit before after calls state is called.
    let on = disk_words g.D.Disk.reads g.D.Disk.leaves g.D.Disk.moment g.D.Disk.since g.D.Disk.faults in
    calls_world on founder limit c.one_chain.ensures.in_force g.met.D.Disk.counts_now g.met.D.Disk.only_now c.one_list.ensures c.one_chain.ensures.one before calls after state is called

pub returns-clause-acknowledged : goal.returns-clause-acknowledged
returns-clause-acknowledged g c =
    λ founder limit files calls after history empty called kept.
    let on = disk_words g.D.Disk.reads g.D.Disk.leaves g.D.Disk.moment g.D.Disk.since g.D.Disk.faults in
    calls_acknowledged on founder limit c.one_chain.ensures.in_force g.met.D.Disk.counts_now g.met.D.Disk.only_now c.one_list.ensures c.one_chain.ensures.one c.each_once.ensures.acknowledged files calls after history empty called kept
