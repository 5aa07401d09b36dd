use Rattle.std.proofs.Common.{◌≡◌, ℕ, ℤ, Bool, List, ◌++◌, map, ap, ◌∙◌}
use Rattle.std.specs.Prelude.{reverse}
use Rattle.obs_record.specs.declared.short.Short.{Short}
use Rattle.tracklet_file.specs.declared.observation.Observation.{Observation}
use Rattle.tracklet_file.specs.Observations.{has_live, is_live_line}
use Rattle.tracklet_file.specs.Contents.{Contents}
use Rattle.tracklet_file.proofs.IndexLemmas.{in_order_of_age}
use Rattle.tracklet_file.proofs.file.TrackletFile.have_live.Goals as goal

pub returns-clause-live : goal.returns-clause-live
returns-clause-live c =
    let items = c.self.inside.observations.items in
    let told = λ (has : Short → ℤ → ℕ → ℤ → Bool). c.args.live.now.items ++ map (is_live_line has) c.args.lines.now in
    let plain : has_live items ≡ has_live (reverse items) = λ i station time ra dec. in_order_of_age items station time ra dec i in
    c.have_live.ensures.live ∙ ap (λ (os : List Observation). told (has_live os)) c.as_slice.ensures.value
    ∙ ap told plain
    ∙ ap (λ (v : Contents). told (has_live v.observations)) c.self.view_is
