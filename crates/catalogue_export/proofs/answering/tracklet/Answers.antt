use Rattle.std.proofs.Common.{◌≡◌, Ok, inl, refl, sym, ◌∙◌}
use Rattle.act_model.specs.declared.query.Query.TheVariants as query
use Rattle.act_model.specs.Deeds.{deeds}
use Rattle.act_model.specs.Designations.{links_of}
use Rattle.act_model.specs.Holdings.{holdings}
use Rattle.act_model.specs.QueryTexts.{tracklet_text}
use Rattle.act_model.specs.Step.{answer_of_query}
use Rattle.catalogue_export.proofs.Telling.{if_made, tracklet_told, tracklet_unknown, none_refused, refused_so}
use Rattle.catalogue_export.proofs.answering.tracklet.Goals as goal

pub returns-in-Some-clause-due : goal.returns-in-Some-clause-due
returns-in-Some-clause-due g c =
    let past = g.V.Shelf.history c.args.shelf.now in
    let asked = query.Tracklet c.args.t in
    let head = c.in-Some.head in
    c.text_or_refusal.ensures (answer_of_query past c.args.caller asked)
    (if_made c.tracklet_text.result
    (λ text. text ≡ tracklet_text (holdings (deeds past)) (links_of (deeds past)) c.args.t head)
    (λ text. answer_of_query past c.args.caller asked ≡ Ok text)
    (λ text is. tracklet_told past c.args.caller c.args.t head text (sym c.in-Some.is ∙ c.track.ensures) is)
    c.tracklet_text.ensures)

pub returns-in-None-clause-due : goal.returns-in-None-clause-due
returns-in-None-clause-due g c =
    inl (tracklet_unknown (g.V.Shelf.history c.args.shelf.now) c.args.caller c.args.t (sym c.in-None.is ∙ c.track.ensures))

pub returns-in-Some-clause-refused : goal.returns-in-Some-clause-refused
returns-in-Some-clause-refused g c =
    let past = g.V.Shelf.history c.args.shelf.now in
    none_refused (answer_of_query past c.args.caller (query.Tracklet c.args.t)) _ _ (tracklet_told past c.args.caller c.args.t c.in-Some.head _ (sym c.in-Some.is ∙ c.track.ensures) refl)

pub returns-in-None-clause-refused : goal.returns-in-None-clause-refused
returns-in-None-clause-refused g c =
    let past = g.V.Shelf.history c.args.shelf.now in
    refused_so (answer_of_query past c.args.caller (query.Tracklet c.args.t)) _ (tracklet_unknown past c.args.caller c.args.t (sym c.in-None.is ∙ c.track.ensures))
