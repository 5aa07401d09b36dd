use Rattle.std.proofs.Common.{◌≡◌, ◌++◌, drop}
use Rattle.act_model.specs.Texts.{object_lines}
use Rattle.act_model.proofs.texts.push_object_lines.Given as goal

-- the lines so far and those of what is left are those of all
abbrev pub invariant-loop-order : goal.invariant-loop-order
invariant-loop-order l = l.out ++ object_lines l.half (drop l.order-index l.orders) ≡ l.fn.out ++ object_lines l.half l.orders
