use Rattle.act_model.specs.Deeds.{deeds}
use Rattle.comet_model.specs.Register.{new_entry}
use Rattle.comet_core.specs.declared.replaying.ReplayFault.TheVariants.{NotLegal}
use Rattle.comet_core.proofs.ReplayLemmas.{ready_added, kept_never, refused_never, unread_never, ready_due, refused_due, kept_due, err_is}
use Rattle.comet_core.proofs.register.Register.come_again.Goals as goal

-- a body that can't be read
pub returns-in-Err-Unread-clause-not_legal : goal.returns-in-Err-Unread-clause-not_legal
returns-in-Err-Unread-clause-not_legal g c = λ fault.
    unread_never c.args.self.now.founder (deeds (g.V.Shelf.history c.args.shelf.now)) c.args.self.now.entries (new_entry c.args.number c.args.body.now c.args.moment) (c.in-Err-Unread.ensures.unread cc)

pub returns-in-Ok-Ready-clause-added : goal.returns-in-Ok-Ready-clause-added
returns-in-Ok-Ready-clause-added g c =
    ready_added c.args.self.now.founder (deeds (g.V.Shelf.history c.args.shelf.now)) c.args.self.now.entries c.args.number c.args.body.now c.args.moment c.requires.instant c.requires.follows c.in-Ok.naming c.in-Ok.ensures.read
    c.in-Ok-Ready.prepared.entry
    (ready_due (deeds (g.V.Shelf.history c.args.shelf.now)) c.args.self.now.entries c.args.self.now.comets c.prepare_new.new.self.room _ c.in-Ok-Ready.field-0 c.in-Ok-Ready.ensures.answer c.in-Ok-Ready.prepared c.in-Ok-Ready.field-0-is)

-- a number that was used
pub returns-in-Ok-Kept-clause-not_legal : goal.returns-in-Ok-Kept-clause-not_legal
returns-in-Ok-Kept-clause-not_legal g c = λ fault.
    kept_never c.args.self.now.founder (deeds (g.V.Shelf.history c.args.shelf.now)) c.args.self.now.entries c.args.number c.args.body.now c.args.moment c.requires.instant c.requires.follows c.in-Ok.naming c.in-Ok.ensures.read
    c.in-Ok-Kept.field-0-0
    (kept_due (deeds (g.V.Shelf.history c.args.shelf.now)) c.args.self.now.entries c.args.self.now.comets c.prepare_new.new.self.room _ c.in-Ok-Kept.field-0 c.in-Ok-Kept.ensures.answer c.in-Ok-Kept.field-0-0 c.in-Ok-Kept.field-0-is)

-- a refusal
pub returns-in-Ok-Refused-clause-not_legal : goal.returns-in-Ok-Refused-clause-not_legal
returns-in-Ok-Refused-clause-not_legal g c = λ fault.
    refused_never c.args.self.now.founder (deeds (g.V.Shelf.history c.args.shelf.now)) c.args.self.now.entries c.args.number c.args.body.now c.args.moment c.requires.instant c.requires.follows c.in-Ok.naming c.in-Ok.ensures.read
    c.in-Ok-Refused.refusal c.fault_of.result
    (refused_due (deeds (g.V.Shelf.history c.args.shelf.now)) c.args.self.now.entries c.args.self.now.comets c.prepare_new.new.self.room _ c.in-Ok-Refused.field-0 c.in-Ok-Refused.ensures.answer c.in-Ok-Refused.refusal c.in-Ok-Refused.field-0-is)
    c.fault_of.ensures (err_is c.fault_of.result NotLegal fault)

pub returns-clause-not_legal : goal.returns-clause-not_legal
returns-clause-not_legal g c = λ fault.
    refused_never c.args.self.now.founder (deeds (g.V.Shelf.history c.args.shelf.now)) c.args.self.now.entries c.args.number c.args.body.now c.args.moment c.requires.instant c.requires.follows c.in-Ok.naming c.in-Ok.ensures.read
    c.in-Err.refusal c.fault_of-in-Err.result c.in-Err.ensures.answer c.fault_of-in-Err.ensures (err_is c.fault_of-in-Err.result NotLegal fault)
