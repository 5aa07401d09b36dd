use Rattle.std.proofs.Common.{lit<, ap, length, arith}
use Rattle.packed_names.specs.Printed.{half_text}
use Rattle.comet_names.proofs.Lengths.{length_half}
use Rattle.comet_names.proofs.printed.put_half.Goals as goal

pub push-requires : goal.push-requires
push-requires c =
    let items = c.as_slice-byte-items.ensures (half_text c.args.half) c.print_half-label.ensures in
    (lit< tt, omega (arith, ap length items, length_half c.args.half))

pub returns-clause-len : goal.returns-clause-len
returns-clause-len c =
    let items = c.as_slice-byte-items.ensures (half_text c.args.half) c.print_half-label.ensures in
    omega (arith, ap length items, length_half c.args.half)
