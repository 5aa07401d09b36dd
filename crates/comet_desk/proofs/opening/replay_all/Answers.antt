use Rattle.std.proofs.Common.{◌≡◌, ℕ, Err, refl, sym, subst, ◌∙◌}
use Rattle.std.specs.Prelude.{IsErrOf}
use Rattle.act_bodies.specs.declared.key.Key.{Key}
use Rattle.act_model.specs.Deeds.{deeds}
use Rattle.comet_core.specs.declared.replaying.ReplayFault.{ReplayFault}
use Rattle.comet_core.specs.declared.replaying.ReplayFault.TheVariants.{NotLegal}
use Rattle.comet_desk.specs.Opening.{StopsIn}
use Rattle.comet_desk.proofs.Replayed.{taken_more, stops_in}
use Rattle.comet_desk.proofs.opening.replay_all.Goals as goal

pub loop-placed-preserved : goal.loop-placed-preserved
loop-placed-preserved g c =
    let old = c.loop-placed.register in
    record {
      taken = taken_more old.founder (deeds (g.V.Shelf.history c.args.shelf.now)) old.entries c.replay.new.register.entries c.args.parcels.now c.loop-placed.placed-index c.placed-item.result c.loop-placed-test.true c.placed-item.is c.in-Ok.ensures.taken c.loop-placed.invariant.taken;
      over = c.replay.ensures.over;
      founder = c.replay.ensures.founder ∙ c.loop-placed.invariant.founder;
    }

pub returns-in-Err-NotLegal-clause-damaged : goal.returns-in-Err-NotLegal-clause-damaged
returns-in-Err-NotLegal-clause-damaged g c = λ number offset same.
    let desk = deeds (g.V.Shelf.history c.args.shelf.now) in
    let file : number ≡ 3 = cc in
    let at : c.placed-item.result.offset ≡ offset = cc in
    let old = c.loop-placed.register in (
      file,
      subst (λ (n : ℕ). StopsIn c.args.register.now.founder desk c.args.parcels.now n) at
          (subst (λ (k : Key). StopsIn k desk c.args.parcels.now c.placed-item.result.offset) c.loop-placed.invariant.founder
          (stops_in old.founder desk old.entries c.args.parcels.now c.loop-placed.placed-index c.placed-item.result c.loop-placed-test.true c.placed-item.is c.loop-placed.invariant.taken c.loop-placed.invariant.over.legal
          (c.in-Err-NotLegal.ensures.not_next (subst (λ (f : ReplayFault). IsErrOf {T = Unit {0}} (Err f) NotLegal) (sym c.in-Err-NotLegal.field-0-is) refl)))),
    )
