use Rattle.std.proofs.Common.{◌≡◌, ◌++◌, drop}
use Rattle.act_model.specs.Texts.{number_lines}
use Rattle.act_model.proofs.texts.push_number_lines.Given as goal

-- the lines so far and those of what is left are those of all
abbrev pub invariant-loop-n : goal.invariant-loop-n
invariant-loop-n l = l.out ++ number_lines (drop l.n-index l.numbered) ≡ l.fn.out ++ number_lines l.numbered
