-- What the file keeps, as its lists change, and what is read from it.
use Rattle.std.proofs.Common.{◌≡◌, ℕ, ◌+◌, ◌-◌, ◌<◌, ◌≤◌, Bool, true, false, cond, List, [], ◌∷◌, ◌++◌, length, get_or, set, Option, Some, None, zero, suc, inl, inr, refl, ap, sym, subst, ◌∙◌, arith}
use Rattle.std.specs.Prelude.{◌==◌, ◌&&◌, nat_lt, count_by, unwrap_or, slice_get, not, is_none, IsSome, is_some, IfSome, reverse}
use Rattle.std.specs.Option.{option_map, option_and_then}
use Rattle.std.proofs.lemmas.Bool.{eq-eqb, ne_eqb, false≢true, eqb-false, cases_lt}
use Rattle.std.proofs.lemmas.List.{length-reverse}
use Rattle.std.proofs.lemmas.List.Sums.{sum_by-cons}
use Rattle.std.proofs.lemmas.Option.{none-some, same_Some}
use Rattle.packed_names.specs.declared.name.Designation.{Designation}
use Rattle.tracklet_file.specs.declared.observation.Observation.{Observation}
use Rattle.tracklet_file.specs.declared.tracklet.Tracklet.{Tracklet}
use Rattle.tracklet_file.specs.declared.chain.Chain.{Chain}
use Rattle.tracklet_file.specs.Numbering.{next_number, numbered}
use Rattle.tracklet_file.specs.Observations.{track_of, later_of_track, first_of, next_of, IsFollowedBy, with_retraction}
use Rattle.tracklet_file.specs.Tracklets.{IsTracklet, home_of, with_home, is_isolated, is_retracted}
use Rattle.tracklet_file.specs.Contents.{AreInTracklets}
use Rattle.tracklet_file.specs.Chains.{is_live_of, chain_of, AreChained, chain_after, links_after}
use Rattle.tracklet_file.specs.Keeping.{Kept, IsKept}
use Rattle.tracklet_file.proofs.NumberingLemmas.{numbered_within, numbered_at, length-changed_at}
use Rattle.tracklet_file.proofs.TrackLemmas.{first_is}
use Rattle.tracklet_file.proofs.CountLemmas.{counted_more, counted_retracted, counted_rehomed, count_some, tracklet_at}
use Rattle.tracklet_file.proofs.ChainLemmas.{chained_more, chained_tracklet, chained_retracted}

-- ---- what stands at a number

slice_get_is : {A : Type 0} (items : List A) (place : ℕ) (item d : A) → slice_get items place ≡ Some item → get_or items place d ≡ item
slice_get_is [] place item d at = absurd (none-some item at)
slice_get_is (x ∷ items) zero item d at = same_Some x item at
slice_get_is (x ∷ items) (suc place) item d at = slice_get_is items place item d at

-- an item with a number stands at the place before it
pub read_there : {A : Type 0} (items : List A) (number : ℕ) (item : A) → numbered (reverse items) number ≡ Some item
    → (1 ≤ number) × (number - 1 < length items) × ((d : A) → get_or items (number - 1) d ≡ item)
read_there items number item at =
    let inside = numbered_within (reverse items) number (ap is_some at) in
    let lengths : length (reverse items) ≡ length items = length-reverse items in
    let back : number - 1 + 1 ≡ number = omega arith in
    (inside.0, omega arith, λ d. slice_get_is items (number - 1) item d (sym (numbered_at items (number - 1)) ∙ ap (numbered (reverse items)) back ∙ at))

there_within : {A : Type 0} (items : List A) (number : ℕ) → 0 < number → number ≤ length items → IsSome (numbered items number)
there_within [] number some low = absurd (omega arith)
there_within (newest ∷ older) number some low = by (number == next_number older) refl (there_within older number some)
  where
    by : (b : Bool) → (number == next_number older) ≡ b → (number ≤ length older → IsSome (numbered older number)) → IsSome (cond b (Some newest) (numbered older number))
    by true is rest = refl
    by false is rest = rest (lower (eqb-false _ _ is))
      where
        lower : (number ≡ next_number older → ⊥) → number ≤ length older
        lower differs = elim (cases_lt (length older) number) [ inl past ↦ absurd (differs (omega arith)) | inr within ↦ within ]

-- lists of one length have the same numbers
absent_too : {A B : Type 0} (items : List A) (others : List B) (number : ℕ) → length items ≡ length others → numbered items number ≡ None → numbered others number ≡ None
absent_too items others number same absent = by (numbered others number) refl
  where
    by : (found : Option _) → numbered others number ≡ found → numbered others number ≡ None
    by None is = is
    by (Some other) is =
        let inside = numbered_within others number (ap is_some is) in
        absurd (false≢true (sym (ap is_some absent) ∙ there_within items number inside.0 (omega arith)))

-- a kept number, where it isn't 0
pub number_read : (o : Option ℕ) → ((k : ℕ) → o ≡ Some k → 0 < k) → cond (unwrap_or o 0 == 0) None (Some (unwrap_or o 0)) ≡ o
number_read None positive = refl
number_read (Some k) positive = ap (λ (b : Bool). cond b None (Some k)) (ne_eqb k 0 (λ none. omega (arith, positive k refl)))

-- a tracklet that isn't there has no observation
pub later_absent : (tracklets : List Tracklet) (observations : List Observation) (t after : ℕ) → AreInTracklets tracklets observations → numbered tracklets t ≡ None → later_of_track observations t after ≡ []
later_absent tracklets [] t after there absent = refl
later_absent tracklets (newest ∷ older) t after there absent =
    ap (λ (xs : List ℕ). xs ++ cond ((newest.track == t) && nat_lt after (next_number older)) (next_number older ∷ []) []) (later_absent tracklets older t after there.1 absent)
    ∙ ap (λ (b : Bool). cond (b && nat_lt after (next_number older)) (next_number older ∷ []) [])
    (ne_eqb newest.track t (λ same. absurd (false≢true (sym (ap is_some absent) ∙ ap (λ (n : ℕ). is_some (numbered tracklets n)) (sym same) ∙ there.0))))

pub first_positive : (observations : List Observation) (t k : ℕ) → first_of observations t ≡ Some k → 0 < k
first_positive observations t k is = (first_is observations t 0 k is).later

-- what comes next: it is later, of the same tracklet, and followed by what is later still
pub record ComesNext (observations : List Observation) (k next : ℕ) : Type 0 where
  pub later : k < next
  pub own : track_of observations next ≡ track_of observations k
  pub rest : IsFollowedBy observations k next

pub next_is : (observations : List Observation) (k next : ℕ) → next_of observations k ≡ Some next → ComesNext observations k next
next_is observations k next is = by (track_of observations k) refl is
  where
    by : (own : Option ℕ) → track_of observations k ≡ own → option_and_then (λ (t : ℕ). slice_get (later_of_track observations t k) 0) own ≡ Some next → ComesNext observations k next
    by None track head = absurd (none-some next head)
    by (Some t) track head =
        let first = first_is observations t k next head in
        record {
          later = first.later;
          own = first.own ∙ sym track;
          rest = λ u own. subst (λ (u : ℕ). later_of_track observations u k ≡ next ∷ later_of_track observations u next) (same_Some _ _ (sym track ∙ own)) first.rest;
        }

pub next_positive : (observations : List Observation) (k next : ℕ) → next_of observations k ≡ Some next → 0 < next
next_positive observations k next is = omega (arith, (next_is observations k next is).later)

pub found_next : (observations : List Observation) (k : ℕ) (found : Option ℕ) → found ≡ next_of observations k → IfSome found (ComesNext observations k)
found_next observations k None is = tt
found_next observations k (Some next) is = next_is observations k next (sym is)

-- ---- changes

module _ (tracklets : List Tracklet) (observations : List Observation) (kept : Kept) (was : IsKept tracklets observations kept) where
  pub kept_tracklet : (newest : Tracklet) (tracklets' : List Tracklet) (chains' : List Chain) → tracklets' ≡ newest ∷ tracklets → chains' ≡ kept.chains ++ record { first = 0; last = 0; live = 0 } ∷ []
      → IsKept tracklets' observations (record kept { chains = chains' })
  kept_tracklet newest tracklets' chains' tracklets_are chains_are =
      subst (λ (ts : List Tracklet). IsKept ts observations (record kept { chains = chains' })) (sym tracklets_are)
      (subst (λ (cs : List Chain). IsKept (newest ∷ tracklets) observations (record kept { chains = cs })) (sym chains_are)
      record {
        counted = counted_more newest tracklets observations was.counted;
        chained = subst (λ (n : ℕ). AreChained n observations (kept.chains ++ record { first = 0; last = 0; live = 0 } ∷ []) kept.links) (omega arith)
            (chained_tracklet tracklets observations kept.chains kept.links was.counted.in_tracklets was.chained);
      })

  pub kept_added : (newest : Observation) (chain : Chain) (observations' : List Observation) (chains' : List Chain) (links' : List ℕ) (isolated' : ℕ)
      → IsTracklet tracklets newest.track → newest.live ≡ true → chain ≡ get_or kept.chains (newest.track - 1) chain
      → observations' ≡ newest ∷ observations → chains' ≡ set kept.chains (newest.track - 1) (chain_after chain (next_number observations)) → links' ≡ links_after kept.links chain.last (next_number observations)
      → isolated' ≡ kept.isolated + cond (is_none (home_of tracklets newest.track)) 1 0
      → IsKept tracklets observations' (record { isolated = isolated'; retracted = kept.retracted; chains = chains'; links = links' })
  kept_added newest chain observations' chains' links' isolated' there alive read observations_are chains_are links_are isolated_is =
      subst (λ (os : List Observation). IsKept tracklets os (record { isolated = isolated'; retracted = kept.retracted; chains = chains'; links = links' })) (sym observations_are)
      (subst (λ (cs : List Chain). IsKept tracklets (newest ∷ observations) (record { isolated = isolated'; retracted = kept.retracted; chains = cs; links = links' })) (sym chains_are)
      (subst (λ (ls : List ℕ). IsKept tracklets (newest ∷ observations) (record { isolated = isolated'; retracted = kept.retracted; chains = set kept.chains (newest.track - 1) (chain_after chain (next_number observations)); links = ls })) (sym links_are)
      record {
        counted = record { in_tracklets = (there, was.counted.in_tracklets); isolated_are = isolated_are; retracted_are = retracted_are };
        chained = chained_more (length tracklets) newest observations kept.chains kept.links chain was.chained inside.0 inside.1 alive read;
      }))
    where
      inside : (0 < newest.track) × (newest.track ≤ length tracklets)
      inside = numbered_within tracklets newest.track there

      isolated_are : isolated' ≡ count_by (is_isolated tracklets) (newest ∷ observations)
      isolated_are =
          let longer = sum_by-cons (λ (o : Observation). cond (is_isolated tracklets o) 1 0) newest observations in
          let own : ◌≡◌ {A = ℕ} (cond (newest.live && is_none (home_of tracklets newest.track)) 1 0) (cond (is_none (home_of tracklets newest.track)) 1 0) =
          ap (λ (b : Bool). cond (b && is_none (home_of tracklets newest.track)) 1 0) alive in
          omega (arith, was.counted.isolated_are)

      retracted_are : kept.retracted ≡ count_by is_retracted (newest ∷ observations)
      retracted_are =
          let longer = sum_by-cons (λ (o : Observation). cond (is_retracted o) 1 0) newest observations in
          let own : ◌≡◌ {A = ℕ} (cond (is_retracted newest) 1 0) 0 = ap (λ (b : Bool). cond (not b) 1 0) alive in
          omega (arith, was.counted.retracted_are)

  pub kept_retracted : (k : ℕ) (o : Observation) (chain : Chain) (observations' : List Observation) (chains' : List Chain) (isolated' retracted' fewer : ℕ)
      → numbered observations k ≡ Some o → o.live ≡ true → chain ≡ get_or kept.chains (o.track - 1) chain → fewer + 1 ≡ chain.live
      → observations' ≡ with_retraction observations k → chains' ≡ set kept.chains (o.track - 1) (record chain { live = fewer }) → retracted' ≡ kept.retracted + 1
      → isolated' + cond (is_none (home_of tracklets o.track)) 1 0 ≡ kept.isolated
      → IsKept tracklets observations' (record { isolated = isolated'; retracted = retracted'; chains = chains'; links = kept.links })
  kept_retracted k o chain observations' chains' isolated' retracted' fewer at alive read less observations_are chains_are retracted_is isolated_is =
      subst (λ (os : List Observation). IsKept tracklets os (record { isolated = isolated'; retracted = retracted'; chains = chains'; links = kept.links })) (sym observations_are)
      (subst (λ (cs : List Chain). IsKept tracklets (with_retraction observations k) (record { isolated = isolated'; retracted = retracted'; chains = cs; links = kept.links })) (sym chains_are)
      (subst (λ (n : ℕ). IsKept tracklets (with_retraction observations k) (record { isolated = isolated'; retracted = n; chains = set kept.chains (o.track - 1) (record chain { live = fewer }); links = kept.links })) (sym retracted_is)
      record {
        counted = counted_retracted tracklets observations k o at alive was.counted isolated' isolated_is;
        chained = chained_retracted (length tracklets) observations k o kept.chains kept.links chain fewer was.chained at alive inside.0 inside.1 read less;
      }))
    where
      inside : (0 < o.track) × (o.track ≤ length tracklets)
      inside = numbered_within tracklets o.track (tracklet_at tracklets observations k o was.counted.in_tracklets at)

  pub kept_rehomed : (t : ℕ) (home : Option Designation) (tracklets' : List Tracklet) (isolated' : ℕ) → IsTracklet tracklets t → tracklets' ≡ with_home tracklets t home
      → isolated' + cond (is_none (home_of tracklets t)) (count_by (is_live_of t) observations) 0 ≡ kept.isolated + cond (is_none home) (count_by (is_live_of t) observations) 0
      → IsKept tracklets' observations (record kept { isolated = isolated' })
  kept_rehomed t home tracklets' isolated' there tracklets_are after_is =
      subst (λ (ts : List Tracklet). IsKept ts observations (record kept { isolated = isolated' })) (sym tracklets_are)
      record {
        counted = counted_rehomed tracklets observations t home there was.counted isolated' after_is;
        chained = subst (λ (n : ℕ). AreChained n observations kept.chains kept.links) (sym (length-changed_at (λ (tracklet : Tracklet). record tracklet { home = home }) tracklets t)) was.chained;
      }

  -- ---- what is read

  -- the chain of a tracklet that is there
  pub chain_read : (t : ℕ) (chain : Chain) → IsTracklet tracklets t → chain ≡ get_or kept.chains (t - 1) chain → (t - 1 < length kept.chains) × (chain ≡ chain_of observations t)
  chain_read t chain there read =
      let inside = numbered_within tracklets t there in
      let within : t - 1 < length kept.chains = omega (arith, was.chained.as_many_chains) in
      let back : t - 1 + 1 ≡ t = omega arith in
      (within, read ∙ was.chained.chain_is (t - 1) chain within ∙ ap (chain_of observations) back)

  -- a live observation is counted in its tracklet's chain
  pub chain_some : (k : ℕ) (o : Observation) → numbered observations k ≡ Some o → o.live ≡ true → (chain : Chain) → chain ≡ get_or kept.chains (o.track - 1) chain → 0 < chain.live
  chain_some k o at alive chain read =
      let is = (chain_read o.track chain (tracklet_at tracklets observations k o was.counted.in_tracklets at) read).1 in
      subst (λ (n : ℕ). 0 < n) (sym (ap (λ (c : Chain). c.live) is))
      (count_some (is_live_of o.track) observations k o at (ap (λ (b : Bool). b && (o.track == o.track)) alive ∙ eq-eqb o.track o.track refl))

  -- a tracklet that is there has a chain, and an observation a link
  pub first_there : (t : ℕ) (chain : Chain) → numbered (reverse kept.chains) t ≡ Some chain → cond (chain.first == 0) None (Some chain.first) ≡ first_of observations t
  first_there t chain at =
      let read = read_there kept.chains t chain at in
      let within : t - 1 < length kept.chains = read.1 in
      let back : t - 1 + 1 ≡ t = omega (arith, read.0) in
      let is : chain.first ≡ unwrap_or (first_of observations t) 0 =
      ap (λ (c : Chain). c.first) (sym (read.2 chain) ∙ was.chained.chain_is (t - 1) chain within) ∙ ap (λ (n : ℕ). unwrap_or (first_of observations n) 0) back in
      ap (λ (n : ℕ). cond (n == 0) None (Some n)) is ∙ number_read (first_of observations t) (first_positive observations t)

  pub first_absent : (t : ℕ) → numbered (reverse kept.chains) t ≡ None → first_of observations t ≡ None
  first_absent t absent =
      ap (λ (xs : List ℕ). slice_get xs 0)
      (later_absent tracklets observations t 0 was.counted.in_tracklets (absent_too (reverse kept.chains) tracklets t (length-reverse kept.chains ∙ was.chained.as_many_chains) absent))

  pub next_there : (k next : ℕ) → numbered (reverse kept.links) k ≡ Some next → cond (next == 0) None (Some next) ≡ next_of observations k
  next_there k next at =
      let read = read_there kept.links k next at in
      let within : k - 1 < length kept.links = read.1 in
      let back : k - 1 + 1 ≡ k = omega (arith, read.0) in
      let is : next ≡ unwrap_or (next_of observations k) 0 = sym (read.2 0) ∙ was.chained.link_is (k - 1) within ∙ ap (λ (n : ℕ). unwrap_or (next_of observations n) 0) back in
      ap (λ (n : ℕ). cond (n == 0) None (Some n)) is ∙ number_read (next_of observations k) (next_positive observations k)

  pub next_absent : (k : ℕ) → numbered (reverse kept.links) k ≡ None → next_of observations k ≡ None
  next_absent k absent =
      ap (λ (found : Option Observation). option_and_then (λ (t : ℕ). slice_get (later_of_track observations t k) 0) (option_map (λ (o : Observation). o.track) found))
      (absent_too (reverse kept.links) observations k (length-reverse kept.links ∙ was.chained.as_many_links) absent)
