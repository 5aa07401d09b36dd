use Rattle.std.proofs.Common.{◌≡◌, ◌+◌, ◌-◌, Bool, cond, List, ◌∷◌, [], ◌++◌, set, true, refl, ap, sym, subst, ◌∙◌, arith}
use Rattle.std.specs.Prelude.{reverse, is_none}
use Rattle.std.proofs.lemmas.List.{length-reverse}
use Rattle.tracklet_file.specs.declared.chain.Chain.{Chain}
use Rattle.tracklet_file.specs.declared.observation.Observation.{Observation}
use Rattle.tracklet_file.specs.Numbering.{next_number}
use Rattle.tracklet_file.specs.Tracklets.{IsTracklet, home_of}
use Rattle.tracklet_file.specs.Chains.{is_live_of, chain_after, links_after}
use Rattle.tracklet_file.specs.Contents.{Contents}
use Rattle.tracklet_file.specs.Places.{IsIndexed}
use Rattle.tracklet_file.proofs.NumberingLemmas.{numbered_within, place_within, reverse_push}
use Rattle.tracklet_file.proofs.CountLemmas.{none_told, count_low}
use Rattle.tracklet_file.proofs.ChainLemmas.{last_low}
use Rattle.tracklet_file.proofs.KeepingLemmas.{chain_read, kept_added}
use Rattle.tracklet_file.proofs.file.TrackletFile.add.Goals as goal

pub overflow_sub-track : goal.overflow_sub-track
overflow_sub-track c = (numbered_within c.args.self.now.tracklets c.args.track c.requires.there).0

pub index-chain-requires : goal.index-chain-requires
index-chain-requires c =
    let there : IsTracklet (reverse c.self.inside.tracklets.items) c.args.track = subst (λ (v : Contents). IsTracklet v.tracklets c.args.track) (sym c.self.view_is) c.requires.there in
    let within = place_within c.self.inside.tracklets.items c.args.track there in
    omega (arith, within, c.self.invariant.kept.chained.as_many_chains, length-reverse c.self.inside.tracklets.items)

pub extend-requires : goal.extend-requires
extend-requires c =
    let observations = reverse c.self.inside.observations.items in
    let there : IsTracklet (reverse c.self.inside.tracklets.items) c.args.track = subst (λ (v : Contents). IsTracklet v.tracklets c.args.track) (sym c.self.view_is) c.requires.there in
    let chain = (chain_read _ _ _ c.self.invariant.kept c.args.track c.index-chain.result.now there c.index-chain.ensures).1 in
    let live = count_low (is_live_of c.args.track) observations in
    omega (arith, live, length-reverse c.self.inside.observations.items, ap (λ (chain : Chain). chain.live) chain)

pub overflow_sub-track-2 : goal.overflow_sub-track-2
overflow_sub-track-2 c = (numbered_within c.args.self.now.tracklets c.args.track c.requires.there).0

pub index_mut-requires : goal.index_mut-requires
index_mut-requires c =
    let there : IsTracklet (reverse c.self.inside.tracklets.items) c.args.track = subst (λ (v : Contents). IsTracklet v.tracklets c.args.track) (sym c.self.view_is) c.requires.there in
    let within = place_within c.self.inside.tracklets.items c.args.track there in
    omega (arith, within, c.self.invariant.kept.chained.as_many_chains, length-reverse c.self.inside.tracklets.items)

pub link-requires-clause-there : goal.link-requires-clause-there
link-requires-clause-there c =
    let observations = reverse c.self.inside.observations.items in
    let there : IsTracklet (reverse c.self.inside.tracklets.items) c.args.track = subst (λ (v : Contents). IsTracklet v.tracklets c.args.track) (sym c.self.view_is) c.requires.there in
    let chain = (chain_read _ _ _ c.self.invariant.kept c.args.track c.index-chain.result.now there c.index-chain.ensures).1 in
    omega (arith, last_low observations c.args.track, ap (λ (chain : Chain). chain.last) chain, c.self.invariant.kept.chained.as_many_links)

pub invariant_of-self : goal.invariant_of-self
invariant_of-self c =
    let tracklets = reverse c.self.inside.tracklets.items in
    let observations = reverse c.self.inside.observations.items in
    let there : IsTracklet tracklets c.args.track = subst (λ (v : Contents). IsTracklet v.tracklets c.args.track) (sym c.self.view_is) c.requires.there in
    let number : c.len.result + 1 ≡ next_number observations = omega (arith, length-reverse c.self.inside.observations.items) in
    let home : c.home.result ≡ home_of tracklets c.args.track = c.home.ensures ∙ sym (ap (λ (v : Contents). home_of v.tracklets c.args.track) c.self.view_is) in
    let isolated : c.is_none-isolated.result ≡ is_none (home_of tracklets c.args.track) = none_told c.home.result c.is_none-isolated.result c.is_none-isolated.ensures ∙ ap is_none home in
    let newest : Observation = record { track = c.args.track; sighting = c.args.s; entry = c.args.entry; live = true } in
    let pushed : reverse c.push_reserved.new.self.items ≡ newest ∷ observations = ap reverse c.push_reserved.ensures.items ∙ reverse_push c.self.inside.observations.items _ in
    record {
      homed = c.self.invariant.homed;
      indexed =
          subst (λ (os : List Observation). IsIndexed os c.add.new.self) (sym c.push_reserved.ensures.items)
          (subst (λ (os : List Observation). IsIndexed (os ++ newest ∷ []) c.add.new.self) c.as_slice.ensures.value c.add.ensures.filed);
      kept =
          kept_added _ _ _ c.self.invariant.kept newest c.index-chain.result.now _ _ _ c.with_one-self-inside.result there refl c.index-chain.ensures
          pushed
          (ap (set c.self.inside.chains.items (c.args.track - 1)) (c.extend.ensures ∙ ap (chain_after c.index-chain.result.now) number))
          (c.link.ensures.links ∙ ap (links_after c.self.inside.links.items c.index-chain.result.now.last) number)
          (c.with_one-self-inside.ensures ∙ ap (λ (b : Bool). c.self.inside.isolated + cond b 1 0) isolated);
    }
