use Rattle.std.proofs.Common.{◌≡◌, ℤ, List, ap, sym, ◌∙◌}
use Rattle.act_model.specs.declared.entry.Entry.{Entry}
use Rattle.act_model.specs.History.{next_moment}
use Rattle.act_model.specs.Refusals.{work_within}
use Rattle.act_model.specs.Step.{unless_refused, new_entry}
use Rattle.desk_core.proofs.ClaimLemmas.{act_unheard, act_new}
use Rattle.desk_core.proofs.ResendLemmas.{none_placed}
use Rattle.desk_core.proofs.Steps.{prepared_as}
use Rattle.desk_core.proofs.office.Core.prepare_claimed.Goals as goal

pub returns-in-Err-hear-clause-answer : goal.returns-in-Err-hear-clause-answer
returns-in-Err-hear-clause-answer c =
    act_unheard c.args.limit c.args.self.now.history c.args.claim c.args.verb c.args.bytes.now (next_moment c.args.self.now.history c.args.reading) c.in-Err-hear.refusal c.in-Err-hear.ensures.due

pub returns-clause-answer : goal.returns-clause-answer
returns-clause-answer c =
    let past = c.args.self.now.history in
    let moment = next_moment past c.args.reading in
    let heard = c.in-Ok-hear.heard in
    let at : c.next_moment-moment.result ≡ moment = c.next_moment-moment.ensures ∙ ap (λ (h : List Entry). next_moment h c.args.reading) c.filed.ensures.history in
    prepared_as c.args.limit past _ _ c.prepare_new.new.self.spare c.prepare_new.result
    (act_new c.args.limit past c.args.claim c.args.verb c.args.bytes.now moment heard c.in-Ok-hear.ensures.due (none_placed past c.args.claim (sym c.place_for.ensures ∙ c.in_default.is))
    ∙ ap (λ (m : ℤ). unless_refused (work_within c.args.limit past c.args.bytes.now m heard) (new_entry heard c.args.bytes.now m)) (sym at))
    c.prepare_new.ensures.answer
