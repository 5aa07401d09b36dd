use Rattle.comet_model.proofs.Findings.{half_found}
use Rattle.comet_model.proofs.laws.discovered_in_their_own_half_months.Goals as goal

pub returns : goal.returns
returns c = λ history d half is.
    let own = half_found c.below.ensures.designations c.below.ensures.acts_fit history d half is in
    (own.name, own.is_name, own.is_half)
