use Rattle.std.proofs.Common.{Ok, Err, inl, sym}
use Rattle.act_model.specs.Deeds.{deeds}
use Rattle.act_model.specs.History.{next_moment}
use Rattle.comet_core.proofs.HearLemmas.{no_bytes, heard_as}
use Rattle.comet_core.proofs.AskLemmas.{heard_by, names_none, same_refusal, told, never_refused}
use Rattle.comet_core.proofs.register.Register.try_ask.Goals as goal

pub returns-in-Err-clause-told : goal.returns-in-Err-clause-told
returns-in-Err-clause-told g c = λ limit reading.
    inl (no_bytes c.args.self.now.founder limit (deeds (g.V.Shelf.history c.args.shelf.now)) c.args.self.now.entries c.args.request.now reading c.in-Err.refusal c.in-Err.ensures.refused)

pub returns-in-Err-clause-refused : goal.returns-in-Err-clause-refused
returns-in-Err-clause-refused g c = λ limit reading refusal is.
    let desk = deeds (g.V.Shelf.history c.args.shelf.now) in
    same_refusal c.args.self.now.founder limit desk c.args.self.now.entries c.args.request.now reading c.in-Err.refusal refusal
    (no_bytes c.args.self.now.founder limit desk c.args.self.now.entries c.args.request.now reading c.in-Err.refusal c.in-Err.ensures.refused) is

pub returns-in-Err-hear-clause-told : goal.returns-in-Err-hear-clause-told
returns-in-Err-hear-clause-told g c = λ limit reading.
    let heard = heard_by c.founder.result.now c.args.self.now.founder c.args.request.now c.in-Ok.bytes.now (Err c.in-Err-hear.refusal) (c.in-Err-hear.ensures.query c.requires.query) c.founder.ensures in
    inl (heard_as c.args.self.now.founder limit (deeds (g.V.Shelf.history c.args.shelf.now)) c.args.self.now.entries c.args.request.now reading c.in-Ok.bytes.now (Err c.in-Err-hear.refusal) c.in-Ok.ensures.bytes heard)

pub returns-in-Err-hear-clause-refused : goal.returns-in-Err-hear-clause-refused
returns-in-Err-hear-clause-refused g c = λ limit reading refusal is.
    let desk = deeds (g.V.Shelf.history c.args.shelf.now) in
    let heard = heard_by c.founder.result.now c.args.self.now.founder c.args.request.now c.in-Ok.bytes.now (Err c.in-Err-hear.refusal) (c.in-Err-hear.ensures.query c.requires.query) c.founder.ensures in
    same_refusal c.args.self.now.founder limit desk c.args.self.now.entries c.args.request.now reading c.in-Err-hear.refusal refusal
    (heard_as c.args.self.now.founder limit desk c.args.self.now.entries c.args.request.now reading c.in-Ok.bytes.now (Err c.in-Err-hear.refusal) c.in-Ok.ensures.bytes heard) is

pub tell-requires-clause-query : goal.tell-requires-clause-query
tell-requires-clause-query g c = names_none c.founder.result.now c.args.request.now c.in-Ok.bytes.now c.in-Ok-hear.heard c.requires.query (sym (c.in-Ok-hear.ensures.query c.requires.query))

pub returns-in-Ok-tell-clause-told : goal.returns-in-Ok-tell-clause-told
returns-in-Ok-tell-clause-told g c = λ limit reading.
    let heard = heard_by c.founder.result.now c.args.self.now.founder c.args.request.now c.in-Ok.bytes.now (Ok c.in-Ok-hear.heard) (c.in-Ok-hear.ensures.query c.requires.query) c.founder.ensures in
    told c.args.self.now.founder limit (deeds (g.V.Shelf.history c.args.shelf.now)) c.args.self.now.entries c.args.request.now reading c.in-Ok.bytes.now c.in-Ok-hear.heard c.in-Ok.ensures.bytes heard
    c.in-Ok-tell.text (c.in-Ok-tell.ensures limit c.in-Ok-hear.heard.number (next_moment c.args.self.now.entries reading))

pub returns-in-Ok-tell-clause-refused : goal.returns-in-Ok-tell-clause-refused
returns-in-Ok-tell-clause-refused g c = λ limit reading refusal is.
    let heard = heard_by c.founder.result.now c.args.self.now.founder c.args.request.now c.in-Ok.bytes.now (Ok c.in-Ok-hear.heard) (c.in-Ok-hear.ensures.query c.requires.query) c.founder.ensures in
    absurd (never_refused c.args.self.now.founder limit (deeds (g.V.Shelf.history c.args.shelf.now)) c.args.self.now.entries c.args.request.now reading c.in-Ok.bytes.now c.in-Ok-hear.heard c.in-Ok.ensures.bytes heard c.requires.query refusal is)

pub returns-in-Err-tell-clause-refused : goal.returns-in-Err-tell-clause-refused
returns-in-Err-tell-clause-refused g c = λ limit reading refusal is.
    let heard = heard_by c.founder.result.now c.args.self.now.founder c.args.request.now c.in-Ok.bytes.now (Ok c.in-Ok-hear.heard) (c.in-Ok-hear.ensures.query c.requires.query) c.founder.ensures in
    absurd (never_refused c.args.self.now.founder limit (deeds (g.V.Shelf.history c.args.shelf.now)) c.args.self.now.entries c.args.request.now reading c.in-Ok.bytes.now c.in-Ok-hear.heard c.in-Ok.ensures.bytes heard c.requires.query refusal is)
