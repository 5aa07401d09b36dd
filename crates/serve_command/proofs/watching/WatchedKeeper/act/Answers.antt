use Rattle.std.proofs.Common.{◌≡◌, ℤ, List, [], ◌∷◌, ◌++◌, Some, ap, ◌∙◌}
use Rattle.act_model.specs.declared.request.Request.{Request}
use Rattle.serve_command.specs.Images.{WasAsked, request_in, reading_in}
use Rattle.serve_command.proofs.KeptLemmas.{stamped_act, asked_before, asked_now, passed_on}
use Rattle.serve_command.proofs.WatchLemmas.{GrowthLaws, watched_more, watched_on}
use Rattle.serve_command.proofs.watching.WatchedKeeper.act.Goals as goal

pub invariant_of-self : goal.invariant_of-self
invariant_of-self g c =
    let laws : GrowthLaws = record {
      grow = c.histories_grow.ensures;
      legal_step = c.histories_are_legal.ensures.step;
      legal_conduct = c.histories_are_legal.ensures.conduct;
      makes = c.steps_add_one_entry.ensures;
    } in
    let D = g.D.Disk in
    let W = g.W.Opening in
    let old = c.self.inside.desk in
    let new = c.act-reply.new.self in
    let answered = c.self.inside.answered.items in
    let more = c.and-answered.result.items in
    let noted = c.and-asked.result in
    let noted_is : c.and-asked.result.items ≡ (c.args.request.now, c.args.reading) ∷ [] = c.and-asked.ensures ∙ ap (λ (l : List (Request × ℤ)). l ++ (c.args.request.now, c.args.reading) ∷ []) c.new.ensures in
    let request_is : request_in c.and-asked.result.items ≡ c.args.request.now = ap request_in noted_is in
    let reading_is : reading_in c.and-asked.result.items ≡ c.args.reading = ap reading_in noted_is in
    let more_is = c.and-answered.ensures in
    let was = watched_more D.moment D.since (WasAsked answered) (WasAsked more) W.history W.moment W.images old
    (asked_before answered more new noted more_is old.founder (Some old.limit)) c.self.invariant.0 in
    let asks = asked_now answered more new noted more_is c.args.request.now c.args.reading request_is reading_is in
    let is = watched_on laws D.moment D.since D.faults (WasAsked more) W.history W.moment W.images old new c.args.request.now c.args.reading c.act-reply.result asks was
    c.act-reply.ensures.turn c.act-reply.ensures.inside c.act-reply.ensures.founder c.act-reply.ensures.limit in (
      is,
      passed_on laws D.moment D.since D.faults D.leaves g.met.D.Disk.only_now W.history W.moment W.images old new answered more noted
          c.args.request.now c.args.reading c.act-reply.result request_is reading_is was is c.act-reply.ensures.turn c.act-reply.ensures.inside
          c.act-reply.ensures.at_rest c.act-reply.ensures.founder c.act-reply.ensures.limit more_is c.self.invariant.1,
    )

pub returns : goal.returns
returns g c =
    let noted_is : c.and-asked.result.items ≡ (c.args.request.now, c.args.reading) ∷ [] = c.and-asked.ensures ∙ ap (λ (l : List (Request × ℤ)). l ++ (c.args.request.now, c.args.reading) ∷ []) c.new.ensures in record {
      turn = rw (← c.self.view_is)
          (stamped_act g.D.Disk.moment g.D.Disk.since g.D.Disk.faults c.args.request.now c.act-reply.result c.self.inside.desk c.act-reply.new.self
          c.self.inside.answered.items c.and-answered.result.items c.args.reading c.and-asked.result (ap request_in noted_is) (ap reading_in noted_is) c.and-answered.ensures
          c.act-reply.ensures.turn c.act-reply.ensures.inside);
    }
