use Rattle.std.proofs.Common.{List, ℕ, ◌++◌, sym, ap, ◌∙◌, subst}
use Rattle.std.proofs.KnownBytes.{Appends-trans}
use Rattle.std.proofs.lemmas.Result.{MatchResult-from_err, on_err_weaker, on_ok_weaker}
use Rattle.std.specs.Io.KnownBytes.{Appends}
use Rattle.desk_http.specs.ReplyTexts.{answer_text}
use Rattle.desk_http.proofs.Written.{first_and_rest, part_of_head, part_behind_head}
use Rattle.desk_http.proofs.replies.write_answer.Goals as goal

pub returns-in_err-write_all-clause-part : goal.returns-in_err-write_all-clause-part
unfolding answer_text
returns-in_err-write_all-clause-part g c =
    let text = c.args.text.now in
    let head = c.as_slice-head.ensures.value ∙ c.answer_head-written.ensures in
    let filled = c.as_slice.ensures.value ∙ c.first_bytes-first.ensures in
    let joined = ap (λ (h : List ℕ). h ++ text) (sym head) ∙ first_and_rest _ _ _ text _ _ filled c.split_at.ensures.front c.split_at.ensures.back in
    MatchResult-from_err c.from_residual.result _ _ c.from_residual.ensures.0 (λ _. part_of_head _ _ _ _ _ joined c.in_err-write_all.ensures.part)

pub returns-clause-part : goal.returns-clause-part
unfolding answer_text
returns-clause-part g c =
    let text = c.args.text.now in
    let head = c.as_slice-head.ensures.value ∙ c.answer_head-written.ensures in
    let filled = c.as_slice.ensures.value ∙ c.first_bytes-first.ensures in
    let joined = ap (λ (h : List ℕ). h ++ text) (sym head) ∙ first_and_rest _ _ _ text _ _ filled c.split_at.ensures.front c.split_at.ensures.back in
    on_err_weaker c.write_all-2.result (λ part. part_behind_head _ _ _ _ _ joined _ c.in_ok-write_all.ensures.whole part) c.write_all-2.ensures.part

pub returns-clause-whole : goal.returns-clause-whole
unfolding answer_text
returns-clause-whole g c =
    let text = c.args.text.now in
    let head = c.as_slice-head.ensures.value ∙ c.answer_head-written.ensures in
    let filled = c.as_slice.ensures.value ∙ c.first_bytes-first.ensures in
    let joined = ap (λ (h : List ℕ). h ++ text) (sym head) ∙ first_and_rest _ _ _ text _ _ filled c.split_at.ensures.front c.split_at.ensures.back in
    on_ok_weaker c.write_all-2.result (λ whole. subst (Appends _ _) (sym joined) (Appends-trans _ _ _ _ _ c.in_ok-write_all.ensures.whole whole)) c.write_all-2.ensures.whole
