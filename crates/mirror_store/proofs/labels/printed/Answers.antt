use Rattle.packed_names.specs.Printed.{printed_text}
use Rattle.packed_names.specs.declared.name.Name.TheVariants as names
use Rattle.mirror_store.proofs.LabelLemmas.{label_is}
use Rattle.mirror_store.proofs.labels.printed.Goals as goal

pub returns : goal.returns
returns c = label_is (printed_text (names.Designation c.args.d)) c.print.result c.print.ensures
