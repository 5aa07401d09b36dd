use Rattle.std.proofs.Common.{Err, inl, sym, subst, ap, ◌∙◌}
use Rattle.act_bodies.specs.declared.key.Key.{Key}
use Rattle.act_model.specs.Deeds.{deeds}
use Rattle.comet_model.specs.Hearing.{hear}
use Rattle.comet_model.specs.Rows.{IsDue}
use Rattle.comet_core.proofs.HearLemmas.{no_bytes, unheard, act_asks, reads_as, never_told, prepared_naming}
use Rattle.comet_core.proofs.register.Register.try_prepare.Goals as goal

pub returns-in-Err-clause-answer : goal.returns-in-Err-clause-answer
returns-in-Err-clause-answer g c =
    inl (no_bytes c.args.self.now.founder c.args.limit (deeds (g.V.Shelf.history c.args.shelf.now)) c.args.self.now.entries c.args.request.now c.args.reading c.in-Err.refusal c.in-Err.ensures.refused)

pub returns-in-Err-hear-clause-answer : goal.returns-in-Err-hear-clause-answer
returns-in-Err-hear-clause-answer g c =
    unheard c.args.self.now.founder c.args.limit (deeds (g.V.Shelf.history c.args.shelf.now)) c.args.self.now.entries c.args.request.now c.args.reading c.in-Ok.bytes.now c.in-Err-hear.refusal c.in-Ok.ensures.bytes
    (subst (λ (f : Key). IsDue (hear f c.args.request.now c.in-Ok.bytes.now) (Err c.in-Err-hear.refusal)) c.founder.ensures c.in-Err-hear.ensures.due)

pub prepare_naming-requires-clause-read : goal.prepare_naming-requires-clause-read
prepare_naming-requires-clause-read g c = reads_as c.in-Ok.bytes.now c.in-Ok-hear.heard.asked c.in-Names.naming c.in-Names.is (act_asks c.founder.result.now c.args.request.now c.in-Ok.bytes.now c.in-Ok-hear.heard c.requires.act c.in-Ok-hear.ensures.due)

pub unreachable-requires : goal.unreachable-requires
unreachable-requires g c = never_told c.in-Ok.bytes.now c.in-Ok-hear.heard.asked c.in-Register.is (act_asks c.founder.result.now c.args.request.now c.in-Ok.bytes.now c.in-Ok-hear.heard c.requires.act c.in-Ok-hear.ensures.due)

pub returns-clause-answer : goal.returns-clause-answer
returns-clause-answer g c =
    prepared_naming c.args.self.now.founder c.args.limit (deeds (g.V.Shelf.history c.args.shelf.now)) c.args.self.now.entries c.args.request.now c.args.reading c.in-Ok.bytes.now c.in-Ok-hear.heard c.in-Names.naming c.in-Ok.ensures.bytes
    (ap (λ (f : Key). hear f c.args.request.now c.in-Ok.bytes.now) (sym c.founder.ensures) ∙ c.in-Ok-hear.ensures.due) c.in-Names.is c.args.self.now.comets c.prepare_naming.new.self.room c.prepare_naming.result c.next_moment-moment.result c.book.result.now.items
    c.next_moment-moment.ensures c.book.ensures c.prepare_naming.ensures.answer
