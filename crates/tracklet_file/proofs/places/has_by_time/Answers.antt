use Rattle.std.proofs.Common.{rules, ap, ◌∙◌}
use Rattle.std.proofs.lemmas.List.Sorted.{answers_always}
use Rattle.tracklet_file.specs.Places.{counts_at, time_of}
use Rattle.tracklet_file.proofs.IndexLemmas.{searched}
use Rattle.tracklet_file.proofs.places.has_by_time.Goals as goal

pub returns-in-Ok : goal.returns-in-Ok
returns-in-Ok c =
    let by_key = c.binary_search_by_key.ensures.position time_of (answers_always _ _ _ (λ f a r g called. search rules)) in
    let found = rw c.in-Ok.is at (searched c.args.waiting.now c.requires c.args.key.now _ c.binary_search_by_key.ensures.bound by_key) in
    c.is_live_at.ensures ∙ ap (counts_at c.args.key.now) c.index-waiting-place.is ∙ found c.index-waiting-place.result

pub returns-in-Err : goal.returns-in-Err
returns-in-Err c =
    let by_key = c.binary_search_by_key.ensures.position time_of (answers_always _ _ _ (λ f a r g called. search rules)) in
    rw c.in-Err.is at (searched c.args.waiting.now c.requires c.args.key.now _ c.binary_search_by_key.ensures.bound by_key)
