use Rattle.std.proofs.Common.{Some, sym, ap, ◌∙◌}
use Rattle.act_model.specs.Hearing.{asked_of}
use Rattle.desk_core.proofs.ClaimLemmas.{if_refused}
use Rattle.desk_core.proofs.Working.{within_refused, within_row}
use Rattle.desk_core.proofs.office.Core.prepare_new.Goals as goal

pub ready-requires-clause-read : goal.ready-requires-clause-read
ready-requires-clause-read c = (c.requires.act, c.args.heard.asked, ap (asked_of c.args.heard.verb) c.in-Ok-from_slice.ensures ∙ c.requires.asked)

pub returns-in-Err-clause-refused : goal.returns-in-Err-clause-refused
returns-in-Err-clause-refused c = λ once.
    if_refused _ _ c.in-Err.refusal (within_refused c.args.limit c.args.self.now.history c.args.bytes.now c.args.moment c.args.heard c.in-Err.refusal (sym (c.in-Err.ensures.exact once)))

pub returns-in-Some-clause-refused : goal.returns-in-Some-clause-refused
returns-in-Some-clause-refused c = λ once.
    if_refused _ _ c.in-Some.refusal (within_row c.args.limit c.args.self.now.history c.args.bytes.now c.args.moment c.args.heard c.in-Ok.deed (Some c.in-Some.refusal) c.in-Ok.ensures.due c.in-Some.ensures.row)
