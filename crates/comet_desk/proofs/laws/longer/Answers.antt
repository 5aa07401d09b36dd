use Rattle.comet_desk.proofs.BesideLemmas.{beside_longer}
use Rattle.comet_desk.proofs.laws.longer.Goals as goal

pub returns : goal.returns
returns g c = λ earlier later register grows beside. beside_longer c.longer.ensures.legal c.longer.ensures.comets earlier later register grows beside
