use Rattle.act_model.specs.Deeds.{deeds}
use Rattle.comet_desk.specs.Desks.{IsBeside}
use Rattle.testkit_comets.proofs.limits.first_wrong.Given as goal

-- the register is one beside the office
abbrev pub invariant-loop-place : goal.invariant-loop-place
invariant-loop-place g l = record {
  beside : IsBeside (deeds (g.V.Shelf.history l.shelf)) l.register;
}
