use Rattle.std.proofs.Common.{◌≡◌, ◌+◌, ◌≤◌, ◌++◌, drop}
use Rattle.act_model.specs.Replies.{line_answers}
use Rattle.act_model.proofs.texts.push_line_answers.Given as goal

-- the answers so far and those to what is left are those to all
abbrev pub invariant-loop-place : goal.invariant-loop-place
invariant-loop-place l =
    (l.out ++ line_answers (drop l.place l.lines) l.observations ≡ l.fn.out ++ line_answers l.lines l.before)
    × (l.observations ≤ l.before + l.place)
