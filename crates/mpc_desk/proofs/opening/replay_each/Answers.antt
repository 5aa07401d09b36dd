use Rattle.std.proofs.Common.{◌≡◌, ℕ, sym, ap, subst, ◌∙◌}
use Rattle.std.specs.Vec.Iter.{into_iter_items}
use Rattle.act_bodies.specs.declared.key.Key.{Key}
use Rattle.obs_journal.specs.Opening.{parcels_of}
use Rattle.mpc_desk.specs.Opening.{StopsIn}
use Rattle.mpc_desk.proofs.OpenLemmas.{taken_more, legal_more, acts_more, stops_in, handed_all, handed_split}
use Rattle.mpc_desk.proofs.opening.replay_each.Goals as goal

pub loop-placed-preserved : goal.loop-placed-preserved
loop-placed-preserved c =
    let kept = c.loop-placed.invariant.2 in
    let old = c.loop-placed.core in
    let now = c.take_in.new.core.history in
    let placed = c.in-Some.placed in
    let next = c.in-Ok.ensures.taken in (
      tt,
      tt,
      record {
        taken = taken_more old.founder old.history now c.loop-placed.yielded placed next kept.taken;
        legal = legal_more old.founder c.take_in.new.core.founder old.history placed.parcel now c.take_in.ensures.founder next kept.legal;
        acts = acts_more old.founder old.history placed.parcel now next kept.acts;
        founder = c.take_in.ensures.founder ∙ kept.founder;
      },
    )

pub returns-in-Err-clause-damaged : goal.returns-in-Err-clause-damaged
returns-in-Err-clause-damaged c = λ number offset same.
    let it = c.into_iter-placed-iterator in
    let kept = c.loop-placed.invariant.2 in
    let places = c.args.parcels in
    let placed = c.in-Some.placed in
    let old = c.loop-placed.core in
    let left = c.next.new.self in
    let all : into_iter_items it.result ≡ places = ap into_iter_items it.ensures.into_iter_gives ∙ c.into_iter-placed-items.ensures in
    let split = sym all ∙ handed_split it.result c.loop-placed.yielded c.loop-placed.placed-iterator placed left c.loop-placed.yielded_by c.in-Some.ensures.steps in
    let d = c.take_in.ensures.damaged number offset (c.in-Err.is ∙ same) in (
      d.0,
      subst (λ (n : ℕ). StopsIn c.args.core.now.founder places n) d.1
          (subst (λ (k : Key). StopsIn k places placed.offset) kept.founder
          (stops_in old.founder old.history places c.loop-placed.yielded (into_iter_items left) placed split kept.taken kept.legal kept.acts d.2)),
    )

pub returns-clause-taken : goal.returns-clause-taken
returns-clause-taken c =
    let it = c.into_iter-placed-iterator in
    let all : into_iter_items it.result ≡ c.args.parcels = ap into_iter_items it.ensures.into_iter_gives ∙ c.into_iter-placed-items.ensures in
    let whole = handed_all it.result c.loop-placed.yielded c.loop-placed.placed-iterator c.next.new.self c.loop-placed.yielded_by c.in-None.ensures.steps in
    c.loop-placed.invariant.2.taken ∙ ap parcels_of (sym whole ∙ all)
