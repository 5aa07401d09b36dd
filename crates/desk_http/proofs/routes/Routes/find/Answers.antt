use Rattle.std.proofs.Common.{sym, ap, ◌∙◌, subst, IsUtf8}
use Rattle.matchit.specs.Seek.{first}
use Rattle.desk_http.specs.Routes.{office_routes}
use Rattle.desk_http.proofs.Parts.{no_verb, no_number, act_routed, query_routed}
use Rattle.desk_http.proofs.routes.Routes.find.Goals as goal

pub returns-in-None : goal.returns-in-None
returns-in-None c =
    let found = ap (first office_routes) c.in-Ok.ensures.path ∙ ap (λ rows. first rows c.args.path.now) (sym c.self.invariant) ∙ c.in-Ok.ensures.found in
    absurd (no_verb c.in-Ok.found.params.path.now _ (subst IsUtf8 (sym c.in-Ok.ensures.path) c.utf8.path) found c.in-None.ensures)

pub returns-in-Some-get : goal.returns-in-Some-get
returns-in-Some-get c =
    let found = ap (first office_routes) c.in-Ok.ensures.path ∙ ap (λ rows. first rows c.args.path.now) (sym c.self.invariant) ∙ c.in-Ok.ensures.found in
    let routed = act_routed c.in-Ok.found.params.path.now _ c.in-Some-get.number.now c.in-Some.verb.now (subst IsUtf8 (sym c.in-Ok.ensures.path) c.utf8.path) found c.in-Act.is c.in-Some.ensures c.in-Some-get.ensures in
    (sym c.in-Ok.ensures.path ∙ routed.0, routed.1, routed.2)

pub returns-in-None-get : goal.returns-in-None-get
returns-in-None-get c =
    let found = ap (first office_routes) c.in-Ok.ensures.path ∙ ap (λ rows. first rows c.args.path.now) (sym c.self.invariant) ∙ c.in-Ok.ensures.found in
    absurd (no_number c.in-Ok.found.params.path.now _ (subst IsUtf8 (sym c.in-Ok.ensures.path) c.utf8.path) found c.in-Act.is c.in-None-get.ensures)

pub returns-in-Query : goal.returns-in-Query
returns-in-Query c =
    let found = ap (first office_routes) c.in-Ok.ensures.path ∙ ap (λ rows. first rows c.args.path.now) (sym c.self.invariant) ∙ c.in-Ok.ensures.found in
    sym c.in-Ok.ensures.path ∙ query_routed c.in-Ok.found.params.path.now _ c.in-Some.verb.now (subst IsUtf8 (sym c.in-Ok.ensures.path) c.utf8.path) found c.in-Query.is c.in-Some.ensures
