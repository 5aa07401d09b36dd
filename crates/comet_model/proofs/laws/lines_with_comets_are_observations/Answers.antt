use Rattle.comet_model.proofs.Lines.{observation_line}
use Rattle.comet_model.proofs.laws.lines_with_comets_are_observations.Goals as goal

pub returns : goal.returns
returns c = λ named line d. observation_line named line d
