use Rattle.std.proofs.Common.{◌≡◌, Ok, refl, ◌∙◌, ap, sym, subst}
use Rattle.act_model.specs.declared.query.Query.{Query}
use Rattle.act_model.specs.declared.query.Query.TheVariants as query
use Rattle.act_model.specs.Catalogue.{catalogue}
use Rattle.act_model.specs.Deeds.{deeds}
use Rattle.act_model.specs.Designations.{row_acts_of, links_of}
use Rattle.act_model.specs.Holdings.{holdings}
use Rattle.act_model.specs.Numbers.{numbers_of}
use Rattle.act_model.specs.QueryTexts.{isolated_text, half_month_line, name_text}
use Rattle.act_model.specs.Rows.{IsDue}
use Rattle.act_model.specs.Step.{answer_of_query}
use Rattle.act_model.specs.Tallies.{tally_text}
use Rattle.catalogue_export.proofs.Telling.{if_made, tally_told, isolated_told, half_month_told, name_told, catalogue_told, none_refused}
use Rattle.catalogue_export.proofs.answering.told.Goals as goal

pub returns-in-Tally-clause-due : goal.returns-in-Tally-clause-due
returns-in-Tally-clause-due g c =
    let past = g.V.Shelf.history c.args.shelf.now in
    subst (λ (q : Query). IsDue (answer_of_query past c.args.caller q) c.text_or_refusal.result) (sym c.in-Tally.is)
    (c.text_or_refusal.ensures (answer_of_query past c.args.caller query.Tally)
    (if_made c.tally_answer.result (λ text. text ≡ tally_text c.tally.result) (λ text. answer_of_query past c.args.caller query.Tally ≡ Ok text)
    (λ text is. tally_told past c.args.caller text (is ∙ ap tally_text c.tally.ensures))
    c.tally_answer.ensures))

pub returns-in-Isolated-clause-due : goal.returns-in-Isolated-clause-due
returns-in-Isolated-clause-due g c =
    let past = g.V.Shelf.history c.args.shelf.now in
    subst (λ (q : Query). IsDue (answer_of_query past c.args.caller q) c.text_or_refusal-in-Isolated.result) (sym c.in-Isolated.is)
    (c.text_or_refusal-in-Isolated.ensures (answer_of_query past c.args.caller query.Isolated)
    (if_made c.isolated_text.result (λ text. text ≡ isolated_text (holdings (deeds past))) (λ text. answer_of_query past c.args.caller query.Isolated ≡ Ok text)
    (λ text is. isolated_told past c.args.caller text is)
    c.isolated_text.ensures))

pub returns-in-HalfMonth-clause-due : goal.returns-in-HalfMonth-clause-due
returns-in-HalfMonth-clause-due g c =
    let past = g.V.Shelf.history c.args.shelf.now in
    let asked = query.HalfMonth c.in-HalfMonth.half in
    subst (λ (q : Query). IsDue (answer_of_query past c.args.caller q) c.text_or_refusal-in-HalfMonth.result) (sym c.in-HalfMonth.is)
    (c.text_or_refusal-in-HalfMonth.ensures (answer_of_query past c.args.caller asked)
    (if_made c.half_month_text.result (λ text. text ≡ half_month_line (row_acts_of (deeds past)) c.in-HalfMonth.half) (λ text. answer_of_query past c.args.caller asked ≡ Ok text)
    (λ text is. half_month_told past c.args.caller c.in-HalfMonth.half text is)
    c.half_month_text.ensures))

pub returns-in-Name-clause-due : goal.returns-in-Name-clause-due
returns-in-Name-clause-due g c =
    let past = g.V.Shelf.history c.args.shelf.now in
    let asked = query.Name c.in-Name.name in
    subst (λ (q : Query). IsDue (answer_of_query past c.args.caller q) c.text_or_refusal-in-Name.result) (sym c.in-Name.is)
    (c.text_or_refusal-in-Name.ensures (answer_of_query past c.args.caller asked)
    (if_made c.name_text.result (λ text. text ≡ name_text (links_of (deeds past)) (numbers_of (deeds past)) c.in-Name.name) (λ text. answer_of_query past c.args.caller asked ≡ Ok text)
    (λ text is. name_told past c.args.caller c.in-Name.name text is)
    c.name_text.ensures))

pub returns-in-Catalogue-clause-due : goal.returns-in-Catalogue-clause-due
returns-in-Catalogue-clause-due g c =
    let past = g.V.Shelf.history c.args.shelf.now in
    subst (λ (q : Query). IsDue (answer_of_query past c.args.caller q) c.text_or_refusal-in-Catalogue.result) (sym c.in-Catalogue.is)
    (c.text_or_refusal-in-Catalogue.ensures (answer_of_query past c.args.caller query.Catalogue)
    (if_made c.catalogue_text.result (λ text. text ≡ catalogue past) (λ text. answer_of_query past c.args.caller query.Catalogue ≡ Ok text)
    (λ text is. catalogue_told past c.args.caller text is)
    c.catalogue_text.ensures))

pub returns-in-Tally-clause-refused : goal.returns-in-Tally-clause-refused
returns-in-Tally-clause-refused g c =
    let past = g.V.Shelf.history c.args.shelf.now in
    none_refused (answer_of_query past c.args.caller c.args.query.now) _ _ (ap (answer_of_query past c.args.caller) c.in-Tally.is ∙ tally_told past c.args.caller _ refl)

pub returns-in-Isolated-clause-refused : goal.returns-in-Isolated-clause-refused
returns-in-Isolated-clause-refused g c =
    let past = g.V.Shelf.history c.args.shelf.now in
    none_refused (answer_of_query past c.args.caller c.args.query.now) _ _ (ap (answer_of_query past c.args.caller) c.in-Isolated.is ∙ isolated_told past c.args.caller _ refl)

pub returns-in-HalfMonth-clause-refused : goal.returns-in-HalfMonth-clause-refused
returns-in-HalfMonth-clause-refused g c =
    let past = g.V.Shelf.history c.args.shelf.now in
    none_refused (answer_of_query past c.args.caller c.args.query.now) _ _ (ap (answer_of_query past c.args.caller) c.in-HalfMonth.is ∙ half_month_told past c.args.caller c.in-HalfMonth.half _ refl)

pub returns-in-Name-clause-refused : goal.returns-in-Name-clause-refused
returns-in-Name-clause-refused g c =
    let past = g.V.Shelf.history c.args.shelf.now in
    none_refused (answer_of_query past c.args.caller c.args.query.now) _ _ (ap (answer_of_query past c.args.caller) c.in-Name.is ∙ name_told past c.args.caller c.in-Name.name _ refl)

pub returns-in-Catalogue-clause-refused : goal.returns-in-Catalogue-clause-refused
returns-in-Catalogue-clause-refused g c =
    let past = g.V.Shelf.history c.args.shelf.now in
    none_refused (answer_of_query past c.args.caller c.args.query.now) _ _ (ap (answer_of_query past c.args.caller) c.in-Catalogue.is ∙ catalogue_told past c.args.caller _ refl)
