use Rattle.std.proofs.Common.{◌∙◌, None}
use Rattle.obs_time.proofs.IsoLaws.{answer_read}
use Rattle.obs_time.proofs.iso.answer.Goals as goal

pub returns-in-Some-default-Some : goal.returns-in-Some-default-Some
returns-in-Some-default-Some c =
    let read = rw c.in-Some-default-Some.field-0-1-is at c.in-Some-default-Some.ensures.exact in
    c.judge_iso.ensures ∙ answer_read c.args.text.now _ read

pub returns-in-Some-default-None : goal.returns-in-Some-default-None
returns-in-Some-default-None c =
    let read = rw c.in-Some-default-None.field-0-1-is at c.in-Some-default-None.ensures.exact in
    answer_read c.args.text.now _ read

pub returns-in-None : goal.returns-in-None
returns-in-None c = answer_read c.args.text.now None c.in-None.ensures.exact
