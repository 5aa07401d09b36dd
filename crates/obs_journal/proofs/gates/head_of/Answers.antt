use Rattle.std.proofs.Common.{rules, ◌<◌, ◌^◌, refl}
use Rattle.std.specs.Int.{w64}
use Rattle.std.specs.Int.RustNames.{FitsSigned}
use Rattle.obs_journal.proofs.Heads.{spelled_by, kept_bits}
use Rattle.obs_journal.proofs.gates.head_of.Goals as goal

pub returns : goal.returns
returns c =
    let fits : c.eight-moment.result.0 < 2 ^ 64 = search rules in
    let fits_moment : FitsSigned w64 c.cast_signed.result = search rules in
    spelled_by c.args.bytes.now _ _ _ _ _ c.eight-moment.result.0 c.requires c.four-counted.ensures c.four-caller.ensures c.eight-number.ensures c.eight-moment.ensures
    (kept_bits c.cast_signed.result c.eight-moment.result.0 c.cast_signed.ensures fits fits_moment) refl
