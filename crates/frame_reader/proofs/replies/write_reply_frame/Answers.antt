use Rattle.std.proofs.Common.{List, ℕ, ◌++◌, sym, ap, ◌∙◌}
use Rattle.std.proofs.lemmas.Result.{MatchResult-from_err, on_err_weaker}
use Rattle.frame_reader.proofs.Written.{head_and_text, part_of_head, part_behind_head}
use Rattle.frame_reader.proofs.replies.write_reply_frame.Goals as goal

pub returns-in_err-write_all-clause-part : goal.returns-in_err-write_all-clause-part
returns-in_err-write_all-clause-part g c =
    let text = c.args.text.now in
    let joined = head_and_text c.args.status text ∙ ap (λ (h : List ℕ). h ++ text) (sym (c.as_slice-head.ensures.value ∙ c.reply_head-written.ensures)) in
    MatchResult-from_err c.from_residual.result _ _ c.from_residual.ensures.0 (λ _. part_of_head _ _ _ _ _ joined c.in_err-write_all.ensures.part)

pub returns-clause-part : goal.returns-clause-part
returns-clause-part g c =
    let text = c.args.text.now in
    let joined = head_and_text c.args.status text ∙ ap (λ (h : List ℕ). h ++ text) (sym (c.as_slice-head.ensures.value ∙ c.reply_head-written.ensures)) in
    on_err_weaker c.write_all-2.result (λ part. part_behind_head _ _ _ _ _ joined _ c.in_ok-write_all.ensures.whole part) c.write_all-2.ensures.part
