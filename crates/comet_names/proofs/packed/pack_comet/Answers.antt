use Rattle.packed_names.specs.Printed.{half_text}
use Rattle.comet_names.proofs.PackedLaws.{packed_comet-half_text}
use Rattle.comet_names.proofs.packed.pack_comet.Goals as goal

pub returns : goal.returns
returns c = cc (packed_comet-half_text c.args.comet _ (c.as_slice-half.ensures (half_text c.args.comet.half) c.print_half-label.ensures))
