use Rattle.std.proofs.Common.{refl}
use Rattle.comet_model.proofs.Legal.{legal_again}
use Rattle.comet_model.proofs.laws.any_founder.Goals as goal

pub returns : goal.returns
returns c = λ founder other desk entries legal. legal_again founder other desk desk (λ naming given. refl) entries legal
