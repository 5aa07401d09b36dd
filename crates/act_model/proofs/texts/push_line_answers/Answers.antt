use Rattle.std.proofs.Common.{ℕ, ◌+◌, ◌++◌, List, drop, sym, ap, ◌∙◌, append_assoc, arith}
use Rattle.act_model.specs.declared.taken.Taken.{Taken}
use Rattle.act_model.specs.Replies.{line_answer, line_answers, observations_with}
use Rattle.act_model.proofs.texts.push_line_answers.Goals as goal

pub loop-place-preserved : goal.loop-place-preserved
loop-place-preserved c =
    let rest = drop (c.loop-place.place + 1) c.args.lines.now in
    let answer = line_answer c.loop-place.observations c.at.result.line c.at.result.found in (
      ap (λ (out : List ℕ). out ++ line_answers rest c.in_ok-observations.observations) c.in_ok-observations.ensures.text
          ∙ ap (λ (before : ℕ). (c.loop-place.out ++ answer) ++ line_answers rest before) c.in_ok-observations.ensures.count
          ∙ append_assoc c.loop-place.out answer (line_answers rest (observations_with c.loop-place.observations c.at.result.found))
          ∙ ap (λ (left : List Taken). c.loop-place.out ++ line_answers left c.loop-place.observations) (sym c.at.ensures.left)
          ∙ c.loop-place.invariant.0,
      omega (arith, c.in_ok-observations.ensures.more, c.loop-place.invariant.1),
    )
