use Rattle.std.proofs.Common.{List}
use Rattle.act_model.specs.declared.deed.Deed.{Deed}
use Rattle.act_model.specs.declared.entry.Entry.{Entry}
use Rattle.act_model.specs.History.{EachNumberOnce}
use Rattle.mpc_desk.specs.Disks.{disk_words}
use Rattle.comet_desk.proofs.WorldLemmas.{calls_world, holds_kept, legal_kept, acknowledged_kept}
use Rattle.comet_desk.proofs.laws.calls_are_worlds.Goals as goal

pub returns-clause-world : goal.returns-clause-world
returns-clause-world g c =
    λ founder limit before after calls state is called.
    let on = disk_words g.D.Disk.reads g.D.Disk.leaves g.D.Disk.moment g.D.Disk.since g.D.Disk.faults in
    calls_world on founder limit c.one_chain.ensures.in_force c.one_history.ensures.second g.met.D.Disk.counts_now g.met.D.Disk.only_now before calls after state is called

pub returns-clause-legal : goal.returns-clause-legal
returns-clause-legal g c =
    λ founder limit history file calls after entries empty called kept.
    let on = disk_words g.D.Disk.reads g.D.Disk.leaves g.D.Disk.moment g.D.Disk.since g.D.Disk.faults in
    legal_kept on founder limit c.one_chain.ensures.in_force c.one_history.ensures.second g.met.D.Disk.counts_now g.met.D.Disk.only_now history file calls after entries empty called kept c.each_once.ensures.legal

pub returns-clause-once : goal.returns-clause-once
returns-clause-once g c =
    λ founder limit history file calls after entries empty called kept.
    let on = disk_words g.D.Disk.reads g.D.Disk.leaves g.D.Disk.moment g.D.Disk.since g.D.Disk.faults in
    holds_kept on founder limit c.one_chain.ensures.in_force c.one_history.ensures.second g.met.D.Disk.counts_now g.met.D.Disk.only_now history file calls after entries empty called kept (λ (desk : List Deed) (entries : List Entry). EachNumberOnce entries) c.each_once.ensures.once

pub returns-clause-names : goal.returns-clause-names
returns-clause-names g c = c.unbroken_names.ensures

pub returns-clause-acknowledged : goal.returns-clause-acknowledged
returns-clause-acknowledged g c =
    λ founder limit history file calls after entries empty called kept.
    let on = disk_words g.D.Disk.reads g.D.Disk.leaves g.D.Disk.moment g.D.Disk.since g.D.Disk.faults in
    acknowledged_kept on founder limit c.one_chain.ensures.in_force c.one_history.ensures.second g.met.D.Disk.counts_now g.met.D.Disk.only_now history file calls after entries empty called kept c.each_once.ensures.acknowledged
