use Rattle.comet_model.proofs.Names.{unbroken}
use Rattle.comet_model.proofs.laws.unbroken_names.Goals as goal

pub returns : goal.returns
returns c = λ desk entries. unbroken c.orders.ensures.halves desk entries
