use Rattle.std.proofs.Common.{◌≡◌, List, ℕ, drop, take, ◌+◌, sym, subst, ◌∙◌}
use Rattle.act_bodies.specs.declared.key.Key.{Key}
use Rattle.obs_journal.specs.declared.opening.Placed.{Placed}
use Rattle.obs_journal.specs.Opening.{parcels_of}
use Rattle.mpc_desk.specs.Files.{parcels_in}
use Rattle.mpc_desk.specs.Opening.{StopsIn}
use Rattle.mpc_desk.proofs.OpenLemmas.{taken_more, take_one_more, places_split, legal_more, acts_more, stops_in}
use Rattle.mpc_desk.proofs.opening.replay_all.Goals as goal

pub loop-placed-preserved : goal.loop-placed-preserved
loop-placed-preserved c =
    let old = c.loop-placed.core in
    let now = c.take_in.new.core.history in
    let at = c.loop-placed.placed-index in
    let placed = c.placed-item.result in
    let next = c.in-Ok.ensures.taken in
    record {
      taken = subst (λ (ps : List Placed). parcels_in now ≡ parcels_of ps) (sym (take_one_more c.args.parcels.now at placed c.loop-placed-test.true c.placed-item.is)) (taken_more old.founder old.history now (take at c.args.parcels.now) placed next c.loop-placed.invariant.taken);
      legal = legal_more old.founder c.take_in.new.core.founder old.history placed.parcel now c.take_in.ensures.founder next c.loop-placed.invariant.legal;
      acts = acts_more old.founder old.history placed.parcel now next c.loop-placed.invariant.acts;
      founder = c.take_in.ensures.founder ∙ c.loop-placed.invariant.founder;
    }

pub returns-in-Err-clause-damaged : goal.returns-in-Err-clause-damaged
returns-in-Err-clause-damaged c = λ number offset same.
    let at = c.loop-placed.placed-index in
    let places = c.args.parcels.now in
    let placed = c.placed-item.result in
    let old = c.loop-placed.core in
    let d = c.take_in.ensures.damaged number offset (c.in-Err.is ∙ same) in (
      d.0,
      subst (λ (n : ℕ). StopsIn c.args.core.now.founder places n) d.1
          (subst (λ (k : Key). StopsIn k places placed.offset) c.loop-placed.invariant.founder
          (stops_in old.founder old.history places (take at places) (drop (at + 1) places) placed (places_split places at placed c.loop-placed-test.true c.placed-item.is) c.loop-placed.invariant.taken c.loop-placed.invariant.legal c.loop-placed.invariant.acts d.2)),
    )
