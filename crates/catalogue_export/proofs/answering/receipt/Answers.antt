use Rattle.std.proofs.Common.{◌≡◌, List, Some, Ok, inl, ap, sym, ◌∙◌}
use Rattle.std.specs.Prelude.{option_copied}
use Rattle.act_model.specs.declared.reply.Reply.{Reply}
use Rattle.act_model.specs.declared.reply.Reply.TheVariants.{Done}
use Rattle.act_model.specs.declared.query.Query.TheVariants as query
use Rattle.act_model.specs.Step.{answer_of_query}
use Rattle.catalogue_export.proofs.Telling.{if_made, receipt_told, receipt_unknown, none_refused, refused_so}
use Rattle.catalogue_export.proofs.answering.receipt.Goals as goal

pub returns-in-Some-Done-clause-due : goal.returns-in-Some-Done-clause-due
returns-in-Some-Done-clause-due g c =
    let past = g.V.Shelf.history c.args.shelf.now in
    let asked = query.Receipt c.args.number in
    c.text_or_refusal.ensures (answer_of_query past c.args.caller asked)
    (if_made c.from_slice.result (λ text. text ≡ c.as_slice.result.now) (λ text. answer_of_query past c.args.caller asked ≡ Ok text)
    (λ text is. receipt_told past c.args.caller c.args.number text (ap (λ (t : List _). Some (Done t)) (is ∙ c.as_slice.ensures) ∙ ap (λ (r : Reply). Some r) (sym c.in-Some-Done.field-0-is) ∙ sym (ap option_copied c.in-Some-Done.is) ∙ c.kept.ensures))
    c.from_slice.ensures)

pub returns-in-None-clause-due : goal.returns-in-None-clause-due
returns-in-None-clause-due g c = inl (receipt_unknown (g.V.Shelf.history c.args.shelf.now) c.args.caller c.args.number (sym (ap option_copied c.in-None.is) ∙ c.kept.ensures))

pub returns-in-Some-Done-clause-refused : goal.returns-in-Some-Done-clause-refused
returns-in-Some-Done-clause-refused g c =
    let past = g.V.Shelf.history c.args.shelf.now in
    none_refused (answer_of_query past c.args.caller (query.Receipt c.args.number)) c.as_slice.result.now _
    (receipt_told past c.args.caller c.args.number c.as_slice.result.now (ap (λ (t : List _). Some (Done t)) c.as_slice.ensures ∙ ap (λ (r : Reply). Some r) (sym c.in-Some-Done.field-0-is) ∙ sym (ap option_copied c.in-Some-Done.is) ∙ c.kept.ensures))

pub returns-in-None-clause-refused : goal.returns-in-None-clause-refused
returns-in-None-clause-refused g c =
    refused_so (answer_of_query (g.V.Shelf.history c.args.shelf.now) c.args.caller (query.Receipt c.args.number)) _ (receipt_unknown (g.V.Shelf.history c.args.shelf.now) c.args.caller c.args.number (sym (ap option_copied c.in-None.is) ∙ c.kept.ensures))
