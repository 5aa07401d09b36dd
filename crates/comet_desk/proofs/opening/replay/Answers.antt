use Rattle.std.proofs.Common.{w64, ◌∙◌}
use Rattle.std.proofs.lemmas.Int.{to_z-of_z}
use Rattle.act_model.specs.Deeds.{deeds}
use Rattle.comet_desk.proofs.Replayed.{on_ok, comes_next, not_next}
use Rattle.comet_desk.proofs.opening.replay.Goals as goal

pub returns-clause-taken : goal.returns-clause-taken
returns-clause-taken g c =
    on_ok c.replay.result _ _
    (comes_next c.args.register.now.founder (deeds (g.V.Shelf.history c.args.shelf.now)) c.args.register.now.entries c.args.parcel.now c.caller.result c.number.result _ c.verb.result c.body.result.now
    (record { caller_is = c.caller.ensures; number_is = c.number.ensures; moment_is = to_z-of_z w64 c.moment.result (record { sfits = c.moment.type_inv }) ∙ c.moment.ensures; code_is = c.verb.ensures; body_is = c.body.ensures })
    c.replay.new.self.entries)
    c.replay.ensures.added

pub returns-clause-not_next : goal.returns-clause-not_next
returns-clause-not_next g c = λ is.
    not_next c.args.register.now.founder (deeds (g.V.Shelf.history c.args.shelf.now)) c.args.register.now.entries c.args.parcel.now c.caller.result c.number.result _ c.verb.result c.body.result.now
    (record { caller_is = c.caller.ensures; number_is = c.number.ensures; moment_is = to_z-of_z w64 c.moment.result (record { sfits = c.moment.type_inv }) ∙ c.moment.ensures; code_is = c.verb.ensures; body_is = c.body.ensures })
    (c.replay.ensures.not_legal is)
