use Rattle.std.proofs.Common.{◌≡◌, Some, subst}
use Rattle.tracklet_file.specs.Numbering.{numbered}
use Rattle.act_model.specs.Holdings.{Holdings}
use Rattle.desk_core.proofs.lending.CoreLedger.file.Goals as goal

pub returns-clause-years : goal.returns-clause-years
returns-clause-years c =
    λ k o is. c.observed_years.ensures c.args.self.now.history k o (subst (λ (h : Holdings). numbered h.observations k ≡ Some o) c.held.ensures is)
