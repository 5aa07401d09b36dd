use Rattle.std.proofs.Common.{◌≡◌, ◌++◌, length}
use Rattle.comet_model.specs.Translation.{translation}
use Rattle.comet_model.proofs.translation.translate.Given as goal

-- what was written, and the translation of what is left, are the whole
abbrev pub invariant-parts : goal.invariant-parts
invariant-parts g l = l.out ++ translation (g.N.CometNames.comets l.names) l.left ≡ translation (g.N.CometNames.comets l.fn.names) l.body

abbrev pub decreases-parts : goal.decreases-parts
decreases-parts g l = length l.left
