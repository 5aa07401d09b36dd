use Rattle.std.proofs.Common.{◌≡◌, ℕ, List, [], take, ap, subst, ◌∙◌, rules, arith}
use Rattle.std.proofs.lemmas.List.Elements.{All-same, All-weaker, All-nil}
use Rattle.obs_record.specs.Sighting.{IsPrintable}
use Rattle.act_model.specs.CatalogueLines.{in_seven}
use Rattle.obs_record.specs.Filed.{IsVisible, IsOwnName, IsTrackName}
use Rattle.catalogue_export.proofs.NameLemmas.{seven_printed}
use Rattle.catalogue_export.proofs.lines.own_columns.Goals as goal

pub returns-in-Sub-clause-printed : goal.returns-in-Sub-clause-printed
returns-in-Sub-clause-printed c =
    let short = c.in-Sub.short in
    let named : IsOwnName short = subst IsTrackName c.in-Sub.is c.requires in
    let count : c.from.result ≡ short.len = search rules in
    let text : List ℕ = take short.len short.bytes in
    All-same IsPrintable c.in_seven.result (in_seven text) (c.in_seven.ensures ∙ ap (λ (n : ℕ). in_seven (take n short.bytes)) count)
    (seven_printed text (All-weaker IsVisible IsPrintable (λ byte is. (omega (arith, is.0), is.1)) text named.visible))

pub returns-in-Number-clause-printed : goal.returns-in-Number-clause-printed
returns-in-Number-clause-printed c = All-same IsPrintable c.in_seven-in-Number.result (in_seven []) c.in_seven-in-Number.ensures (seven_printed [] (All-nil IsPrintable))

pub returns-in-Designation-clause-printed : goal.returns-in-Designation-clause-printed
returns-in-Designation-clause-printed c = All-same IsPrintable c.in_seven-in-Designation.result (in_seven []) c.in_seven-in-Designation.ensures (seven_printed [] (All-nil IsPrintable))
