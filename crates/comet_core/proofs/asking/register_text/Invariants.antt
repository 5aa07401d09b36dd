use Rattle.std.proofs.Common.{◌≡◌, take}
use Rattle.std.specs.Prelude.{reverse}
use Rattle.act_model.specs.Deeds.{deeds}
use Rattle.act_model.specs.Designations.{links_of}
use Rattle.comet_model.specs.Texts.{register_text}
use Rattle.comet_core.proofs.asking.register_text.Given as goal

-- the lines of the comets so far
abbrev pub invariant-comets : goal.invariant-comets
invariant-comets g l = l.out ≡ register_text (links_of (deeds (g.V.Shelf.history l.shelf))) (reverse (take l.named-index l.comets))
