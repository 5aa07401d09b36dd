use Rattle.std.proofs.Common.{◌≡◌, ℤ, w64, sym, ap, subst, ◌∙◌}
use Rattle.std.proofs.lemmas.Int.{to_z-of_z}
use Rattle.act_model.specs.Deeds.{deeds}
use Rattle.comet_model.specs.Register.{new_entry}
use Rattle.comet_core.specs.Replaying.{MayFollow}
use Rattle.comet_core.proofs.ReplayLemmas.{comes, founders, fields_are}
use Rattle.comet_core.proofs.register.Register.replay.Goals as goal

-- the entry of another caller, or of another act
pub returns-then-not-is_founders_act-clause-not_legal : goal.returns-then-not-is_founders_act-clause-not_legal
returns-then-not-is_founders_act-clause-not_legal g c = λ fault entry has added.
    let it = comes c.args.self.now.founder (deeds (g.V.Shelf.history c.args.shelf.now)) c.args.self.now.entries entry added in
    let test = c.is_founders_act.ensures.1 (founders c.args.caller c.args.number c.args.moment c.args.code c.args.body.now entry has c.args.self.now.entries it.follows) in absurd cc

-- an entry that may not follow
pub returns-then-not-may_follow-clause-not_legal : goal.returns-then-not-may_follow-clause-not_legal
returns-then-not-may_follow-clause-not_legal g c = λ fault entry has added.
    let it = comes c.args.self.now.founder (deeds (g.V.Shelf.history c.args.shelf.now)) c.args.self.now.entries entry added in
    let back : c.in-Some.moment ≡ c.args.moment = c.in-Some.ensures.value ∙ to_z-of_z w64 c.args.moment c.ranges.moment in
    let is = fields_are c.args.caller c.args.number c.args.moment c.args.code c.args.body.now entry has it.follows.caller it.follows.verb ∙ ap (λ (m : ℤ). new_entry c.args.number c.args.body.now m) (sym back) in
    let test = c.may_follow.ensures.1 (subst (MayFollow c.args.self.now.entries) is it.follows) in absurd cc
