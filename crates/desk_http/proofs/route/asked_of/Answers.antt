use Rattle.std.proofs.Common.{Some, sym, ap, ◌∙◌}
use Rattle.desk_http.specs.Heads.{query_asked}
use Rattle.desk_http.proofs.TargetLemmas.{act_by, act_target, query_target}
use Rattle.desk_http.proofs.route.asked_of.Goals as goal

pub returns-in-Act : goal.returns-in-Act
returns-in-Act c =
    let method = c.args.method.now in
    let number = c.in-Act.number.now in
    let verb = c.in-Act.verb.now in
    c.act_of.ensures
    ∙ ap (λ text. act_by method (Some (text, c.as_bytes-in-Act.result.now))) c.as_bytes.ensures.value
    ∙ ap (λ text. act_by method (Some (number, text))) c.as_bytes-in-Act.ensures.value
    ∙ sym (act_target method c.args.target.now number verb (sym c.in-Ok.ensures.cases.0 ∙ c.in-Act.ensures.0) c.in-Act.ensures.1)

pub returns-in-Query : goal.returns-in-Query
returns-in-Query c =
    let method = c.args.method.now in
    let verb = c.in-Query.verb.now in
    c.query_asked.ensures
    ∙ ap (λ text. query_asked method (Some text)) c.as_bytes-in-Query.ensures.value
    ∙ sym (query_target method c.args.target.now verb (sym c.in-Ok.ensures.cases.0 ∙ c.in-Query.ensures))
