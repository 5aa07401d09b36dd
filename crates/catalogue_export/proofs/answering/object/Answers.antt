use Rattle.std.proofs.Common.{◌≡◌, Ok, inl, refl, sym, ◌∙◌}
use Rattle.act_model.specs.declared.query.Query.TheVariants as query
use Rattle.act_model.specs.Deeds.{deeds}
use Rattle.act_model.specs.Designations.{links_of}
use Rattle.act_model.specs.Holdings.{holdings}
use Rattle.act_model.specs.Numbers.{numbers_of}
use Rattle.act_model.specs.QueryTexts.{object_text}
use Rattle.act_model.specs.Step.{answer_of_query}
use Rattle.catalogue_export.proofs.Telling.{if_made, object_told, object_unknown, none_refused, refused_so}
use Rattle.catalogue_export.proofs.answering.object.Goals as goal

pub returns-in-Some-clause-due : goal.returns-in-Some-clause-due
returns-in-Some-clause-due g c =
    let past = g.V.Shelf.history c.args.shelf.now in
    let asked = query.Object c.args.d in
    let p = c.in-Some.p in
    c.text_or_refusal.ensures (answer_of_query past c.args.caller asked)
    (if_made c.object_text.result
    (λ text. text ≡ object_text (holdings (deeds past)) (links_of (deeds past)) (numbers_of (deeds past)) p)
    (λ text. answer_of_query past c.args.caller asked ≡ Ok text)
    (λ text is. object_told past c.args.caller c.args.d p text (sym c.in-Some.is ∙ c.principal.ensures) is)
    c.object_text.ensures)

pub returns-in-None-clause-due : goal.returns-in-None-clause-due
returns-in-None-clause-due g c =
    inl (object_unknown (g.V.Shelf.history c.args.shelf.now) c.args.caller c.args.d (sym c.in-None.is ∙ c.principal.ensures))

pub returns-in-Some-clause-refused : goal.returns-in-Some-clause-refused
returns-in-Some-clause-refused g c =
    let past = g.V.Shelf.history c.args.shelf.now in
    none_refused (answer_of_query past c.args.caller (query.Object c.args.d)) _ _ (object_told past c.args.caller c.args.d c.in-Some.p _ (sym c.in-Some.is ∙ c.principal.ensures) refl)

pub returns-in-None-clause-refused : goal.returns-in-None-clause-refused
returns-in-None-clause-refused g c =
    let past = g.V.Shelf.history c.args.shelf.now in
    refused_so (answer_of_query past c.args.caller (query.Object c.args.d)) _ (object_unknown past c.args.caller c.args.d (sym c.in-None.is ∙ c.principal.ensures))
