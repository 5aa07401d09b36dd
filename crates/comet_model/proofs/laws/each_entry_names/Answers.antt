use Rattle.comet_model.proofs.Legal.{each_names}
use Rattle.comet_model.proofs.laws.each_entry_names.Goals as goal

pub returns : goal.returns
returns c = λ founder desk entries. each_names founder desk entries
