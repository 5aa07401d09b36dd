use Rattle.std.proofs.Common.{eqb, take, length-take-le, ap, ◌∙◌, arith, w8}
use Rattle.std.proofs.lemmas.Simd.{bitmask_splat, trailing_mask_l}
use Rattle.ades_psv.proofs.cells.before_bar.Goals as goal
use lib.Count.{count_trailing_zeros}

pub returns-else-bars-eq0 : goal.returns-else-bars-eq0
returns-else-bars-eq0 c =
    let long = length-take-le 16 c.args.text.now c.requires in
    let mask = bitmask_splat w8 eqb (take 16 c.args.text.now) 16 124 long (omega arith) in
    ap (count_trailing_zeros 64) mask
    ∙ trailing_mask_l (λ b. eqb b 124) 64 (take 16 c.args.text.now) (omega (arith, long)) (omega (arith, mask, c.if-bars-eq0.false))
