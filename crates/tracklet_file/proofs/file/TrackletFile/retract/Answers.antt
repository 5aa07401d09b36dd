use Rattle.std.proofs.Common.{◌≡◌, ℕ, ◌+◌, ◌-◌, ◌<◌, true, false, Bool, cond, List, length, get_or, set, refl, ap, subst, sym, ◌∙◌, arith}
use Rattle.std.specs.Prelude.{reverse, is_none}
use Rattle.std.proofs.lemmas.List.{length-reverse}
use Rattle.std.proofs.lemmas.Option.{get_or_from_slice_get}
use Rattle.tracklet_file.specs.declared.observation.Observation.{Observation}
use Rattle.tracklet_file.specs.Observations.{is_live, with_retraction}
use Rattle.tracklet_file.specs.Tracklets.{IsTracklet, home_of}
use Rattle.tracklet_file.specs.Contents.{Contents}
use Rattle.tracklet_file.specs.Places.{IsIndexed}
use Rattle.tracklet_file.proofs.NumberingLemmas.{numbered_within, numbered_place, place_within, read_at, changed_in_place}
use Rattle.tracklet_file.proofs.CountLemmas.{tracklet_at, none_told, live_there, live_at, some_isolated}
use Rattle.tracklet_file.proofs.KeepingLemmas.{chain_some, kept_retracted}
use Rattle.tracklet_file.proofs.file.TrackletFile.retract.Goals as goal

pub overflow_sub-place : goal.overflow_sub-place
overflow_sub-place c =
    (numbered_within c.args.self.now.observations c.args.k (live_there c.args.self.now.observations c.args.k c.requires)).0

pub index-o-requires : goal.index-o-requires
index-o-requires c =
    let observations = reverse c.self.inside.observations.items in
    let live : is_live observations c.args.k ≡ true = ap (λ (v : Contents). is_live v.observations c.args.k) c.self.view_is ∙ c.requires in
    let within : c.args.k - 1 < length c.self.inside.observations.items = place_within c.self.inside.observations.items c.args.k (live_there observations c.args.k live) in
    omega arith

pub home-requires : goal.home-requires
home-requires c =
    let observations = reverse c.self.inside.observations.items in
    let live : is_live observations c.args.k ≡ true = ap (λ (v : Contents). is_live v.observations c.args.k) c.self.view_is ∙ c.requires in
    let at = read_at c.self.inside.observations.items c.args.k c.index-o.result.now (live_there observations c.args.k live) c.index-o.ensures in
    subst (λ (v : Contents). IsTracklet v.tracklets c.index-o.result.now.track) c.self.view_is
    (tracklet_at (reverse c.self.inside.tracklets.items) observations c.args.k c.index-o.result.now c.self.invariant.kept.counted.in_tracklets at)

pub without_one-self-inside-requires : goal.without_one-self-inside-requires
without_one-self-inside-requires c none =
    let observations = reverse c.self.inside.observations.items in
    let live : is_live observations c.args.k ≡ true = ap (λ (v : Contents). is_live v.observations c.args.k) c.self.view_is ∙ c.requires in
    let at = read_at c.self.inside.observations.items c.args.k c.index-o.result.now (live_there observations c.args.k live) c.index-o.ensures in
    let alive = live_at observations c.args.k c.index-o.result.now at live in
    let tracklets = reverse c.self.inside.tracklets.items in
    let alone : is_none (home_of tracklets c.index-o.result.now.track) ≡ true =
    ap (λ (v : Contents). is_none (home_of v.tracklets c.index-o.result.now.track)) c.self.view_is ∙ ap is_none (sym c.home.ensures) ∙ sym (none_told c.home.result c.is_none-isolated.result c.is_none-isolated.ensures) ∙ none in
    subst (λ (n : ℕ). 0 < n) (sym c.self.invariant.kept.counted.isolated_are) (some_isolated tracklets observations c.args.k c.index-o.result.now at alive alone)

pub overflow_sub-o : goal.overflow_sub-o
overflow_sub-o c =
    let observations = reverse c.self.inside.observations.items in
    let live : is_live observations c.args.k ≡ true = ap (λ (v : Contents). is_live v.observations c.args.k) c.self.view_is ∙ c.requires in
    let at = read_at c.self.inside.observations.items c.args.k c.index-o.result.now (live_there observations c.args.k live) c.index-o.ensures in
    let there = tracklet_at (reverse c.self.inside.tracklets.items) observations c.args.k c.index-o.result.now c.self.invariant.kept.counted.in_tracklets at in
    (numbered_within (reverse c.self.inside.tracklets.items) c.index-o.result.now.track there).0

pub index_mut-requires : goal.index_mut-requires
index_mut-requires c =
    let observations = reverse c.self.inside.observations.items in
    let live : is_live observations c.args.k ≡ true = ap (λ (v : Contents). is_live v.observations c.args.k) c.self.view_is ∙ c.requires in
    let at = read_at c.self.inside.observations.items c.args.k c.index-o.result.now (live_there observations c.args.k live) c.index-o.ensures in
    let there = tracklet_at (reverse c.self.inside.tracklets.items) observations c.args.k c.index-o.result.now c.self.invariant.kept.counted.in_tracklets at in
    omega (arith, place_within c.self.inside.tracklets.items c.index-o.result.now.track there, c.self.invariant.kept.chained.as_many_chains, length-reverse c.self.inside.tracklets.items)

pub overflow_sub-index_mut : goal.overflow_sub-index_mut
overflow_sub-index_mut c =
    let observations = reverse c.self.inside.observations.items in
    let live : is_live observations c.args.k ≡ true = ap (λ (v : Contents). is_live v.observations c.args.k) c.self.view_is ∙ c.requires in
    let at = read_at c.self.inside.observations.items c.args.k c.index-o.result.now (live_there observations c.args.k live) c.index-o.ensures in
    let alive = live_at observations c.args.k c.index-o.result.now at live in
    chain_some _ _ _ c.self.invariant.kept c.args.k c.index-o.result.now at alive c.index_mut.result.now c.index_mut.ensures.value

pub retract-requires-clause-there : goal.retract-requires-clause-there
retract-requires-clause-there c =
    let observations = reverse c.self.inside.observations.items in
    let live : is_live observations c.args.k ≡ true = ap (λ (v : Contents). is_live v.observations c.args.k) c.self.view_is ∙ c.requires in
    let within : c.args.k - 1 < length c.self.inside.observations.items = place_within c.self.inside.observations.items c.args.k (live_there observations c.args.k live) in
    omega (arith, ap (λ (os : List Observation). length os) c.as_slice.ensures.value)

pub index_mut-requires-2 : goal.index_mut-requires-2
index_mut-requires-2 c =
    let observations = reverse c.self.inside.observations.items in
    let live : is_live observations c.args.k ≡ true = ap (λ (v : Contents). is_live v.observations c.args.k) c.self.view_is ∙ c.requires in
    let within : c.args.k - 1 < length c.self.inside.observations.items = place_within c.self.inside.observations.items c.args.k (live_there observations c.args.k live) in
    omega arith

pub invariant_of-self : goal.invariant_of-self
invariant_of-self c =
    let observations = reverse c.self.inside.observations.items in
    let live : is_live observations c.args.k ≡ true = ap (λ (v : Contents). is_live v.observations c.args.k) c.self.view_is ∙ c.requires in
    let at = read_at c.self.inside.observations.items c.args.k c.index-o.result.now (live_there observations c.args.k live) c.index-o.ensures in
    let alive = live_at observations c.args.k c.index-o.result.now at live in
    let tracklets = reverse c.self.inside.tracklets.items in
    let there = live_there observations c.args.k live in
    let home : c.home.result ≡ home_of tracklets c.index-o.result.now.track = c.home.ensures ∙ sym (ap (λ (v : Contents). home_of v.tracklets c.index-o.result.now.track) c.self.view_is) in
    let isolated : c.is_none-isolated.result ≡ is_none (home_of tracklets c.index-o.result.now.track) = none_told c.home.result c.is_none-isolated.result c.is_none-isolated.ensures ∙ ap is_none home in
    let chain = chain_some _ _ _ c.self.invariant.kept c.args.k c.index-o.result.now at alive c.index_mut.result.now c.index_mut.ensures.value in
    let changed = changed_in_place (λ (o : Observation). record o { live = false }) c.self.inside.observations.items c.args.k c.index-o.result.now there c.index-o.ensures in
    record {
      homed = c.self.invariant.homed;
      indexed =
          let own = sym (numbered_place c.self.inside.observations.items c.args.k there) ∙ at in
          subst (λ (os : List Observation). IsIndexed (set os (c.args.k - 1) (record c.index-o.result.now { live = false })) c.retract.new.self) c.as_slice.ensures.value
          (c.retract.ensures.filed c.index-o.result.now
          (λ (d : Observation). ap (λ (os : List Observation). get_or os (c.args.k - 1) d) c.as_slice.ensures.value ∙ get_or_from_slice_get c.self.inside.observations.items (c.args.k - 1) c.index-o.result.now d own));
      kept =
          kept_retracted _ _ _ c.self.invariant.kept c.args.k c.index-o.result.now c.index_mut.result.now _ _ c.without_one-self-inside.result (c.self.inside.retracted + 1)
          (c.index_mut.result.now.live - 1) at alive c.index_mut.ensures.value (omega (arith, chain))
          (sym changed) refl refl
          (ap (λ (b : Bool). c.without_one-self-inside.result + cond b 1 0) (sym isolated) ∙ c.without_one-self-inside.ensures);
    }

pub returns-clause-retracted : goal.returns-clause-retracted
returns-clause-retracted c =
    let observations = reverse c.self.inside.observations.items in
    let live : is_live observations c.args.k ≡ true = ap (λ (v : Contents). is_live v.observations c.args.k) c.self.view_is ∙ c.requires in
    sym (changed_in_place (λ (o : Observation). record o { live = false }) c.self.inside.observations.items c.args.k c.index-o.result.now (live_there observations c.args.k live) c.index-o.ensures)
    ∙ ap (λ (v : Contents). with_retraction v.observations c.args.k) c.self.view_is
