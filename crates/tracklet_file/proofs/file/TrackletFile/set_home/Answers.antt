use Rattle.std.proofs.Common.{◌≡◌, ℕ, ◌+◌, ◌-◌, ◌<◌, true, not, length, Option, cond, subst, sym, ap, ◌∙◌, arith}
use Rattle.std.specs.Prelude.{reverse, is_none, count_by}
use Rattle.std.proofs.lemmas.List.{length-reverse}
use Rattle.packed_names.specs.declared.name.Designation.{Designation}
use Rattle.tracklet_file.specs.declared.chain.Chain.{Chain}
use Rattle.tracklet_file.specs.declared.tracklet.Tracklet.{Tracklet}
use Rattle.tracklet_file.specs.Tracklets.{IsTracklet, home_of, with_home, is_isolated}
use Rattle.tracklet_file.specs.Chains.{is_live_of}
use Rattle.tracklet_file.specs.Contents.{Contents}
use Rattle.tracklet_file.proofs.NumberingLemmas.{numbered_within, place_within, changed_in_place}
use Rattle.tracklet_file.proofs.CountLemmas.{live_are_isolated, count_low}
use Rattle.tracklet_file.proofs.KeepingLemmas.{chain_read, kept_rehomed}
use Rattle.tracklet_file.proofs.HomeLemmas.{isolated_some, entry_there, homed_changed}
use Rattle.tracklet_file.proofs.file.TrackletFile.set_home.Goals as goal

pub overflow_sub-t : goal.overflow_sub-t
overflow_sub-t c = (numbered_within c.args.self.now.tracklets c.args.t c.requires).0

pub index-requires : goal.index-requires
index-requires c =
    let there : IsTracklet (reverse c.self.inside.tracklets.items) c.args.t = subst (λ (v : Contents). IsTracklet v.tracklets c.args.t) (sym c.self.view_is) c.requires in
    let within = place_within c.self.inside.tracklets.items c.args.t there in
    omega (arith, within, c.self.invariant.kept.chained.as_many_chains, length-reverse c.self.inside.tracklets.items)

pub isolated_after-self-inside-requires-clause-counted : goal.isolated_after-self-inside-requires-clause-counted
isolated_after-self-inside-requires-clause-counted c none =
    let tracklets = reverse c.self.inside.tracklets.items in
    let observations = reverse c.self.inside.observations.items in
    let there : IsTracklet tracklets c.args.t = subst (λ (v : Contents). IsTracklet v.tracklets c.args.t) (sym c.self.view_is) c.requires in
    let alone : is_none (home_of tracklets c.args.t) ≡ true =
    ap (λ (v : Contents). is_none (home_of v.tracklets c.args.t)) c.self.view_is ∙ ap is_none (sym c.home-was.ensures) ∙ ap not none in
    let chain = (chain_read _ _ _ c.self.invariant.kept c.args.t c.index.result.now there c.index.ensures).1 in
    let among = live_are_isolated tracklets c.args.t alone observations in
    omega (arith, among, ap (λ (chain : Chain). chain.live) chain, c.self.invariant.kept.counted.isolated_are)

pub isolated_after-self-inside-requires-clause-fits : goal.isolated_after-self-inside-requires-clause-fits
isolated_after-self-inside-requires-clause-fits c =
    let observations = reverse c.self.inside.observations.items in
    let there : IsTracklet (reverse c.self.inside.tracklets.items) c.args.t = subst (λ (v : Contents). IsTracklet v.tracklets c.args.t) (sym c.self.view_is) c.requires in
    let chain = (chain_read _ _ _ c.self.invariant.kept c.args.t c.index.result.now there c.index.ensures).1 in
    let live = count_low (is_live_of c.args.t) observations in
    let isolated = count_low (is_isolated (reverse c.self.inside.tracklets.items)) observations in
    omega (arith, live, isolated, length-reverse c.self.inside.observations.items, ap (λ (chain : Chain). chain.live) chain, c.self.invariant.kept.counted.isolated_are)

pub overflow_sub-t-2 : goal.overflow_sub-t-2
overflow_sub-t-2 c = (numbered_within c.args.self.now.tracklets c.args.t c.requires).0

pub index_mut-requires : goal.index_mut-requires
index_mut-requires c =
    let within : c.args.t - 1 < length c.self.inside.tracklets.items = place_within c.self.inside.tracklets.items c.args.t (subst (λ (v : Contents). IsTracklet v.tracklets c.args.t) (sym c.self.view_is) c.requires) in
    omega arith

pub isolated_after-self-inside-requires-2-clause-counted : goal.isolated_after-self-inside-requires-2-clause-counted
isolated_after-self-inside-requires-2-clause-counted c none =
    let tracklets = reverse c.self.inside.tracklets.items in
    let there : IsTracklet tracklets c.args.t = subst (λ (v : Contents). IsTracklet v.tracklets c.args.t) (sym c.self.view_is) c.requires in
    let was : c.home-was.result ≡ home_of tracklets c.args.t = c.home-was.ensures ∙ sym (ap (λ (v : Contents). home_of v.tracklets c.args.t) c.self.view_is) in
    isolated_some tracklets _ c.args.t c.home-was.result there was none c.self.invariant.homed

pub rehome-requires-clause-there : goal.rehome-requires-clause-there
rehome-requires-clause-there c =
    let tracklets = reverse c.self.inside.tracklets.items in
    let was : c.home-was.result ≡ home_of tracklets c.args.t = c.home-was.ensures ∙ sym (ap (λ (v : Contents). home_of v.tracklets c.args.t) c.self.view_is) in
    entry_there c.orders.ensures tracklets _ c.args.t c.home-was.result was c.self.invariant.homed

pub rehome-requires-clause-room : goal.rehome-requires-clause-room
rehome-requires-clause-room c none =
    let tracklets = reverse c.self.inside.tracklets.items in
    let there : IsTracklet tracklets c.args.t = subst (λ (v : Contents). IsTracklet v.tracklets c.args.t) (sym c.self.view_is) c.requires in
    let was : c.home-was.result ≡ home_of tracklets c.args.t = c.home-was.ensures ∙ sym (ap (λ (v : Contents). home_of v.tracklets c.args.t) c.self.view_is) in
    omega (arith, isolated_some tracklets _ c.args.t c.home-was.result there was none c.self.invariant.homed, c.self.invariant.homed.enough)

pub invariant_of-self : goal.invariant_of-self
invariant_of-self c =
    let tracklets = reverse c.self.inside.tracklets.items in
    let observations = reverse c.self.inside.observations.items in
    let there : IsTracklet tracklets c.args.t = subst (λ (v : Contents). IsTracklet v.tracklets c.args.t) (sym c.self.view_is) c.requires in
    let chain = (chain_read _ _ _ c.self.invariant.kept c.args.t c.index.result.now there c.index.ensures).1 in
    let live : c.index.result.now.live ≡ count_by (is_live_of c.args.t) observations = ap (λ (chain : Chain). chain.live) chain in
    let was : c.home-was.result ≡ home_of tracklets c.args.t = c.home-was.ensures ∙ sym (ap (λ (v : Contents). home_of v.tracklets c.args.t) c.self.view_is) in
    let tracklets_are = sym (changed_in_place (λ (tracklet : Tracklet). record tracklet { home = c.args.home }) c.self.inside.tracklets.items c.args.t c.index_mut.result.now there c.index_mut.ensures.value) in
    record {
      indexed = c.self.invariant.indexed;
      homed = homed_changed c.orders.ensures c.args.t c.home-was.result c.args.home tracklets _ _ _ there was tracklets_are c.rehome.ensures.finds c.isolated_after-self-inside-2.ensures c.rehome.ensures.room c.self.invariant.homed;
      kept = kept_rehomed _ _ _ c.self.invariant.kept c.args.t c.args.home _ c.isolated_after-self-inside.result there
          tracklets_are
          (ap (λ (h : Option Designation). c.isolated_after-self-inside.result + cond (is_none h) (count_by (is_live_of c.args.t) observations) 0) (sym was)
          ∙ ap (λ (n : ℕ). c.isolated_after-self-inside.result + cond (is_none c.home-was.result) n 0) (sym live)
          ∙ c.isolated_after-self-inside.ensures
          ∙ ap (λ (n : ℕ). c.self.inside.isolated + cond (is_none c.args.home) n 0) live);
    }

pub returns-clause-home : goal.returns-clause-home
returns-clause-home c =
    let there : IsTracklet (reverse c.self.inside.tracklets.items) c.args.t = subst (λ (v : Contents). IsTracklet v.tracklets c.args.t) (sym c.self.view_is) c.requires in
    sym (changed_in_place (λ (tracklet : Tracklet). record tracklet { home = c.args.home }) c.self.inside.tracklets.items c.args.t c.index_mut.result.now there c.index_mut.ensures.value)
    ∙ ap (λ (v : Contents). with_home v.tracklets c.args.t c.args.home) c.self.view_is
