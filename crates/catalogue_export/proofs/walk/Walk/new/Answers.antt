use Rattle.catalogue_export.proofs.WalkLemmas.{all_written}
use Rattle.catalogue_export.proofs.walk.Walk.new.Goals as goal

pub returns : goal.returns
returns c = λ history. all_written history
