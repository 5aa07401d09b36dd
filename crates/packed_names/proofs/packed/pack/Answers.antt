use Rattle.std.proofs.Common.{◌∙◌}
use Rattle.packed_names.proofs.PackedLaws.{length-packed_text}
use Rattle.packed_names.proofs.packed.pack.Goals as goal

pub returns-clause-len : goal.returns-clause-len
returns-clause-len c = c.packed.ensures.len ∙ (length-packed_text c.texts.ensures) c.args.name
