use Rattle.std.proofs.Common.{◌+◌, List, length, drop, get_or, ap, sym, subst, ◌∙◌, arith}
use Rattle.std.proofs.lemmas.List.{drop_more}
use Rattle.act_model.specs.Holdings.{with_homes}
use Rattle.act_model.specs.Fitting.{AreTracklets}
use Rattle.object_rules.proofs.HomeLemmas.{stay_there}
use Rattle.object_rules.proofs.noting.home_all.Goals as goal

pub loop-t-preserved : goal.loop-t-preserved
loop-t-preserved c =
    let file = c.loop-t.file in
    let ts = c.args.tracklets.now in
    let i = c.loop-t.t-index in
    let home = c.args.home in
    let first = drop_more ts i 0 c.loop-t-test.true in
    let set = c.set_home.ensures.home in
    let observations_before = c.loop-t.invariant.observation_room in
    let observations_now = c.set_home.ensures.room_stays.observations in
    let observations_no_more = c.set_home.ensures.no_more.observations in
    let tracklets_before = c.loop-t.invariant.tracklet_room in
    let tracklets_now = c.set_home.ensures.room_stays.tracklets in
    let tracklets_most = c.set_home.ensures.no_more.tracklets in
    let most_before = c.loop-t.invariant.no_more in
    let one_less = ap length first in
    record {
      homes =
          ap (λ (x : List _). with_homes x (drop (i + 1) ts) home) set
          ∙ sym (ap (λ (x : List _). with_homes file.tracklets x home) first) ∙ c.loop-t.invariant.homes;
      there =
          subst (λ (x : List _). AreTracklets x (drop (i + 1) ts)) (sym set)
          (stay_there file.tracklets (get_or ts i 0) home (drop (i + 1) ts) (subst (AreTracklets file.tracklets) first c.loop-t.invariant.there).1);
      observations = c.set_home.ensures.observations ∙ c.loop-t.invariant.observations;
      observation_room = omega arith;
      tracklet_room = omega arith;
      no_more = omega arith;
    }
