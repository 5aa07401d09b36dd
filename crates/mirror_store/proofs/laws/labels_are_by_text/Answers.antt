use Rattle.mirror_store.proofs.LabelLemmas.{label_is}
use Rattle.mirror_store.proofs.laws.labels_are_by_text.Goals as goal

pub returns : goal.returns
returns c = label_is
