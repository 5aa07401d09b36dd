use Rattle.std.proofs.Common.{FitsSigned, w64}
use Rattle.std.proofs.lemmas.Int.{to_z-of_z}
use Rattle.obs_time.proofs.YearLaws.{year_of_civil, instant_of_year}
use Rattle.obs_time.proofs.instant.Instant.new.Goals as goal

pub returns-clause-years : goal.returns-clause-years
returns-clause-years c = λ civil is.
    let fits : FitsSigned w64 c.args.ns = c.ranges.ns in
    let some = simp to_z-of_z at c.in_range.ensures.some in
    (λ made. year_of_civil c.args.ns civil is (some.0 made), λ year. some.1 (instant_of_year c.args.ns civil is year))
