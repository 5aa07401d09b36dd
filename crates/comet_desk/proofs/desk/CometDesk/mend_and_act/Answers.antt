use Rattle.std.proofs.Common.{false, Some, refl, inl, inr, arith}
use Rattle.act_model.specs.Deeds.{deeds}
use Rattle.comet_model.specs.declared.reply.CometRefusal.TheVariants.{DiskFault}
use Rattle.comet_model.specs.declared.reply.CometReply.TheVariants.{Refused}
use Rattle.comet_desk.proofs.Turned.{some_is, announced_or, failed_turn, taken_turn, act_turn, rose_rises}
use Rattle.comet_desk.proofs.desk.CometDesk.mend_and_act.Goals as goal

pub act_settled-requires-clause-beside : goal.act_settled-requires-clause-beside
act_settled-requires-clause-beside g c = c.in-Ok.ensures.beside (deeds (g.V.Shelf.history c.args.shelf.now)) c.requires.beside

pub returns-in-Ok-clause-inside : goal.returns-in-Ok-clause-inside
returns-in-Ok-clause-inside g c =
    taken_turn g.D.Disk.moment g.D.Disk.since g.D.Disk.faults (deeds (g.V.Shelf.history c.args.shelf.now)) c.args.self.now c.act_settled.new.self c.args.request.now c.args.reading c.act_settled.result c.mend.new.self
    c.in-Ok.ensures.mends c.in-Ok.ensures.settled c.in-Ok.ensures.founder c.in-Ok.ensures.limit c.in-Ok.ensures.unwritten.no_image c.in-Ok.ensures.counts c.act_settled.ensures.counts c.act_settled.ensures.takes

pub returns-in-Err-clause-inside : goal.returns-in-Err-clause-inside
returns-in-Err-clause-inside g c =
    failed_turn g.D.Disk.moment g.D.Disk.since g.D.Disk.faults (deeds (g.V.Shelf.history c.args.shelf.now)) c.args.self.now c.mend.new.self c.args.request.now c.args.reading (Refused (DiskFault false))
    (some_is c.args.self.now.state.doubt (λ none. let never = c.in-Err.ensures.nothing.1 none in absurd cc)) refl c.in-Err.ensures.still_in_doubt c.in-Err.ensures.unwritten.no_image c.in-Err.ensures.counts c.in-Err.ensures.cause

pub returns-in-Ok-clause-turn : goal.returns-in-Ok-clause-turn
returns-in-Ok-clause-turn g c =
    act_turn g.D.Disk.moment g.D.Disk.since g.D.Disk.faults (deeds (g.V.Shelf.history c.args.shelf.now)) c.args.self.now c.act_settled.new.self c.args.request.now c.args.reading c.act_settled.result c.requires.act c.ns.ensures.range
    (returns-in-Ok-clause-inside g c)

pub returns-in-Err-clause-turn : goal.returns-in-Err-clause-turn
returns-in-Err-clause-turn g c =
    act_turn g.D.Disk.moment g.D.Disk.since g.D.Disk.faults (deeds (g.V.Shelf.history c.args.shelf.now)) c.args.self.now c.mend.new.self c.args.request.now c.args.reading (Refused (DiskFault false)) c.requires.act c.ns.ensures.range
    (returns-in-Err-clause-inside g c)

pub returns-in-Ok-clause-acknowledged : goal.returns-in-Ok-clause-acknowledged
returns-in-Ok-clause-acknowledged g c = λ text is.
    c.acknowledged_acts_are_kept.ensures.turn c.args.self.now.founder (Some c.args.self.now.limit) (deeds (g.V.Shelf.history c.args.shelf.now)) c.args.self.now.state c.act_settled.new.self.state _ text (returns-in-Ok-clause-turn g c).turn c.requires.act is

pub returns-in-Err-clause-acknowledged : goal.returns-in-Err-clause-acknowledged
returns-in-Err-clause-acknowledged g c = λ text is.
    c.acknowledged_acts_are_kept.ensures.turn c.args.self.now.founder (Some c.args.self.now.limit) (deeds (g.V.Shelf.history c.args.shelf.now)) c.args.self.now.state c.mend.new.self.state _ text (returns-in-Err-clause-turn g c).turn c.requires.act is

pub returns-in-Ok-clause-cause : goal.returns-in-Ok-clause-cause
returns-in-Ok-clause-cause g c = λ doubt is.
    let turn = returns-in-Ok-clause-turn g c in
    rose_rises (g.D.Disk.faults c.args.self.now.disk) (g.D.Disk.faults c.act_settled.new.self.disk) turn.rise (omega (arith, c.mend.ensures.counts, c.act_settled.ensures.counts))
    (c.disk_faults_have_a_cause.ensures.turn c.args.self.now.founder (Some c.args.self.now.limit) (deeds (g.V.Shelf.history c.args.shelf.now)) c.args.self.now.state c.act_settled.new.self.state _ doubt turn.turn is) turn.counts

pub returns-in-Err-clause-cause : goal.returns-in-Err-clause-cause
returns-in-Err-clause-cause g c = λ doubt is. c.in-Err.ensures.cause

pub returns-in-Ok-clause-doubt : goal.returns-in-Ok-clause-doubt
returns-in-Ok-clause-doubt g c = λ is.
    c.disk_faults_have_a_cause.ensures.doubt c.args.self.now.founder (Some c.args.self.now.limit) (deeds (g.V.Shelf.history c.args.shelf.now)) c.args.self.now.state c.act_settled.new.self.state _ c.args.reading (returns-in-Ok-clause-turn g c).turn refl is

pub returns-in-Err-clause-doubt : goal.returns-in-Err-clause-doubt
returns-in-Err-clause-doubt g c = λ is.
    c.disk_faults_have_a_cause.ensures.doubt c.args.self.now.founder (Some c.args.self.now.limit) (deeds (g.V.Shelf.history c.args.shelf.now)) c.args.self.now.state c.mend.new.self.state _ c.args.reading (returns-in-Err-clause-turn g c).turn refl is

pub returns-in-Ok-clause-announced : goal.returns-in-Ok-clause-announced
returns-in-Ok-clause-announced g c = announced_or _ c.act_settled.result _ (inl c.act_settled.ensures.announced)

pub returns-in-Err-clause-announced : goal.returns-in-Err-clause-announced
returns-in-Err-clause-announced g c = announced_or _ (Refused (DiskFault false)) _ (inr (refl, c.in-Err.ensures.still_in_doubt))

pub returns-in-Err-clause-beside : goal.returns-in-Err-clause-beside
returns-in-Err-clause-beside g c = c.in-Err.ensures.beside (deeds (g.V.Shelf.history c.args.shelf.now)) c.requires.beside
