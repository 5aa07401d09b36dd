use Rattle.std.proofs.Common.{[], ap, ◌∙◌}
use Rattle.std.proofs.lemmas.List.Elements.{All-same, All-nil}
use Rattle.packed_names.specs.declared.name.Name.TheVariants as names
use Rattle.packed_names.specs.Packed.{packed_text}
use Rattle.obs_record.specs.Sighting.{IsPrintable}
use Rattle.act_model.specs.CatalogueLines.{in_seven}
use Rattle.catalogue_export.proofs.NameLemmas.{packed_printed, seven_printed}
use Rattle.catalogue_export.proofs.lines.packed_columns.Goals as goal

pub returns-then-is_name-clause-printed : goal.returns-then-is_name-clause-printed
returns-then-is_name-clause-printed c =
    let text = packed_text (names.Designation c.args.p) in
    All-same IsPrintable c.in_seven.result (in_seven text) (c.in_seven.ensures ∙ ap in_seven (c.as_slice.ensures text c.pack.ensures.text))
    (seven_printed text (packed_printed c.args.p (c.is_name.ensures.name.0 c.if-is_name.true)))

pub returns-else-is_name-clause-printed : goal.returns-else-is_name-clause-printed
returns-else-is_name-clause-printed c = All-same IsPrintable c.in_seven-else-is_name.result (in_seven []) c.in_seven-else-is_name.ensures (seven_printed [] (All-nil IsPrintable))
