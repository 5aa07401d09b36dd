use Rattle.std.proofs.Common.{arith, ap, pos, ◌≡◌}
use Rattle.jiff_core.proofs.SignedLemmas.{signed_arith, signed_casts}
use Rattle.jiff_core.proofs.DateLemmas.{civil}
use Rattle.jiff_core.specs.Date.{epoch_day}
use Rattle.obs_time.proofs.YearLaws.{observed_day}
use Rattle.obs_time.proofs.dates.judge_date.Goals as goal

pub returns-in-Ok-clause-range : goal.returns-in-Ok-clause-range
returns-in-Ok-clause-range c =
    let d = c.in-Ok.date in
    let year : d.year ≡ pos c.args.date.year = omega (arith, signed_casts, c.in-Ok.ensures.value.0) in
    let day = observed_day d.year d.month d.day (civil d) (omega (arith, signed_arith)) (omega (arith, signed_arith)) in
    let same : epoch_day c.to_plain.result ≡ epoch_day d = ap epoch_day c.to_plain.ensures in
    (omega (arith, signed_casts), omega (arith, signed_casts))
