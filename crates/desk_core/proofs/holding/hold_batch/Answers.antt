use Rattle.std.proofs.Common.{ℕ, ◌+◌, List, length, drop, subst, sym, ap, ◌∙◌, arith}
use Rattle.act_model.specs.declared.taken.Taken.{Taken}
use Rattle.act_model.specs.Holdings.{Holdings, with_batch}
use Rattle.desk_core.specs.Office.{held_in, AreTracked}
use Rattle.desk_core.proofs.TakenLines.{accepted_at}
use Rattle.desk_core.proofs.holding.hold_batch.Goals as goal

pub hold_line-requires-clause-tracked : goal.hold_line-requires-clause-tracked
hold_line-requires-clause-tracked c =
    let left = c.at.ensures.left in
    (subst (AreTracked (length c.loop-place.file.tracklets)) left c.loop-place.invariant.tracked).0

pub hold_line-requires-clause-observations : goal.hold_line-requires-clause-observations
hold_line-requires-clause-observations c =
    let accepted = accepted_at c.args.lines.now c.loop-place.place c.at.result c.at.ensures.left in
    let room = c.loop-place.invariant.observations in
    omega arith

pub hold_line-requires-clause-tracklets : goal.hold_line-requires-clause-tracklets
hold_line-requires-clause-tracklets c =
    let accepted = accepted_at c.args.lines.now c.loop-place.place c.at.result c.at.ensures.left in
    let room = c.loop-place.invariant.tracklets in
    omega arith

pub loop-place-preserved : goal.loop-place-preserved
loop-place-preserved c =
    let after = drop (c.loop-place.place + 1) c.args.lines.now in
    let left = c.at.ensures.left in
    let accepted = accepted_at c.args.lines.now c.loop-place.place c.at.result c.at.ensures.left in
    let so_far = c.loop-place.invariant in
    let line = c.hold_line.ensures in
    record {
      tracked = subst (λ (n : ℕ). AreTracked n after) (sym line.tracks) (subst (AreTracked (length c.loop-place.file.tracklets)) left so_far.tracked).1;
      held = ap (λ (held : Holdings). with_batch c.args.receipt after held) line.held ∙ ap (λ (lines : List Taken). with_batch c.args.receipt lines (held_in c.loop-place.file)) (sym left) ∙ so_far.held;
      observations = let room = so_far.observations in let used = line.observations in omega arith;
      tracklets = let room = so_far.tracklets in let used = line.tracklets in omega arith;
      used_observations = let room = so_far.used_observations in let used = line.observations in omega arith;
      used_tracklets = let room = so_far.used_tracklets in let used = line.tracklets in omega arith;
      no_more =
          record {
            observations = omega (arith, so_far.no_more.observations, line.no_more.observations);
            tracklets = omega (arith, so_far.no_more.tracklets, line.no_more.tracklets);
          };
    }
