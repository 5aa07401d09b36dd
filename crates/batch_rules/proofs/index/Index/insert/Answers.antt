use Rattle.std.proofs.Common.{true, cond, ap, ◌∙◌}
use Rattle.indexmap.specs.IndexSet.{contains}
use Rattle.place_keys.specs.Places.{place_key, same_place}
use Rattle.batch_rules.specs.Places.{moment_key}
use Rattle.batch_rules.specs.PlaceTests.{same_moment}
use Rattle.batch_rules.proofs.Beside.{more_told}
use Rattle.batch_rules.proofs.index.Index.insert.Goals as goal

pub returns : goal.returns
returns c earlier finds = record {
  place = λ x. more_told _ _ _ _ (c.in_ok-insert.ensures.updates.0 (place_key x) ∙ ap (λ key. cond (same_place key (place_key x)) true (contains same_place c.args.self.now.places (place_key x))) c.place_key.ensures) (finds.place x);
  moment = λ x. more_told _ _ _ _ (c.in_ok-insert-2.ensures.updates.0 (moment_key x) ∙ ap (λ key. cond (same_moment key (moment_key x)) true (contains same_moment c.args.self.now.moments (moment_key x))) c.moment_key.ensures) (finds.moment x);
}
