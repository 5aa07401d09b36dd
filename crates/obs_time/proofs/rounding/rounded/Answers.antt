use Rattle.std.proofs.Common.{arith}
use Rattle.jiff_core.proofs.SignedLemmas.{signed_casts, one_part}
use Rattle.obs_time.proofs.RoundingLemmas.{rounded_within}
use Rattle.obs_time.proofs.rounding.rounded.Goals as goal

pub returns-then-ns-lt0-clause-low : goal.returns-then-ns-lt0-clause-low
returns-then-ns-lt0-clause-low c =
    let within = rounded_within c.unsigned_abs.result 62_091 c.args.count c.decimal_unit-unit.result c.requires c.decimal_unit-unit.ensures.value (omega (arith, signed_casts, one_part c.ns.result)) in
    omega (arith, signed_casts)

pub returns-else-ns-lt0-clause-high : goal.returns-else-ns-lt0-clause-high
returns-else-ns-lt0-clause-high c =
    let within = rounded_within c.unsigned_abs.result 84_006 c.args.count c.decimal_unit-unit.result c.requires c.decimal_unit-unit.ensures.value (omega (arith, signed_casts, one_part c.ns.result)) in
    omega (arith, signed_casts)
