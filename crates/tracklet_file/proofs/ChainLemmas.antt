-- The chains of tracklets, as observations and tracklets come and go.
use Rattle.std.proofs.Common.{◌≡◌, ℕ, ◌+◌, ◌-◌, ◌<◌, ◌≤◌, Bool, true, false, cond, List, [], ◌∷◌, ◌++◌, length, get_or, set, Option, Some, None, refl, ap, sym, subst, ◌∙◌, inl, inr, arith}
use Rattle.std.specs.Prelude.{◌==◌, ◌&&◌, ◌≢◌, nat_lt, count_by, unwrap_or, slice_get, IsSome}
use Rattle.std.specs.Option.{option_map, option_and_then}
use Rattle.std.proofs.lemmas.Bool.{eqb-true, eq-eqb, ne_eqb, eqb-false, false≢true, cases_eq, cases_lt}
use Rattle.std.proofs.lemmas.Bool.Decides.{nat_tests}
use Rattle.std.proofs.lemmas.List.{append-nil, length-set, get_or-set_same, get_or-set_other, get_or_append_left, get_or_push, length_push}
use Rattle.std.proofs.lemmas.List.Sums.{sum_by-cons}
use Rattle.std.proofs.lemmas.Option.{none-some, same_Some}
use Rattle.tracklet_file.specs.declared.observation.Observation.{Observation}
use Rattle.tracklet_file.specs.declared.tracklet.Tracklet.{Tracklet}
use Rattle.tracklet_file.specs.declared.chain.Chain.{Chain}
use Rattle.tracklet_file.specs.Contents.{AreInTracklets}
use Rattle.tracklet_file.specs.Numbering.{next_number, numbered}
use Rattle.tracklet_file.specs.Observations.{track_of, later_of_track, first_of, next_of, with_retraction}
use Rattle.tracklet_file.specs.Chains.{is_live_of, last_of, chain_of, AreChained, chain_after, links_after}
use Rattle.tracklet_file.proofs.NumberingLemmas.{numbered_within, length-changed_at}
use Rattle.tracklet_file.proofs.TrackLemmas.{later_none, first_is}
use Rattle.tracklet_file.proofs.CountLemmas.{count_changed}
use Rattle.tracklet_file.proofs.AddedLemmas.{read_unchanged, later_retracted}

-- ---- the last observation of a tracklet

pub last_low : (observations : List Observation) (t : ℕ) → last_of observations t ≤ length observations
last_low [] t = omega arith
last_low (newest ∷ older) t = by (newest.track == t) (last_low older t)
  where
    by : (b : Bool) → last_of older t ≤ length older → cond b (next_number older) (last_of older t) ≤ length (newest ∷ older)
    by true rest = omega arith
    by false rest = omega arith

-- nothing is later
pub last_later : (observations : List Observation) (t : ℕ) → later_of_track observations t (last_of observations t) ≡ []
last_later [] t = refl
last_later (newest ∷ older) t = by (newest.track == t) refl (last_later older t)
  where
    by : (b : Bool) → (newest.track == t) ≡ b → later_of_track older t (last_of older t) ≡ []
        → later_of_track (newest ∷ older) t (cond (newest.track == t) (next_number older) (last_of older t)) ≡ []
    by true is rest =
        ap (λ (b : Bool). later_of_track (newest ∷ older) t (cond b (next_number older) (last_of older t))) is
        ∙ later_none (newest ∷ older) t (next_number older) (omega arith)
    by false is rest =
        ap (λ (b : Bool). later_of_track (newest ∷ older) t (cond b (next_number older) (last_of older t))) is
        ∙ ap (λ (b : Bool). later_of_track older t (last_of older t) ++ cond (b && nat_lt (last_of older t) (next_number older)) (next_number older ∷ []) []) is
        ∙ append-nil (later_of_track older t (last_of older t)) ∙ rest

-- a number that isn't the newest one is that of an older observation
older_number : (newest : Observation) (older : List Observation) (k : ℕ) → k ≤ length older → track_of (newest ∷ older) k ≡ track_of older k
older_number newest older k low =
    let differs : (k == next_number older) ≡ false = grind (arith, nat_tests) in
    ap (λ (b : Bool). option_map (λ (o : Observation). o.track) (cond b (Some newest) (numbered older k))) differs

-- it is of the tracklet
pub last_own : (observations : List Observation) (t : ℕ) → 0 < last_of observations t → track_of observations (last_of observations t) ≡ Some t
last_own [] t some = absurd (omega arith)
last_own (newest ∷ older) t some = by (newest.track == t) refl some (last_own older t)
  where
    by : (b : Bool) → (newest.track == t) ≡ b → 0 < cond (newest.track == t) (next_number older) (last_of older t) → (0 < last_of older t → track_of older (last_of older t) ≡ Some t)
        → track_of (newest ∷ older) (cond (newest.track == t) (next_number older) (last_of older t)) ≡ Some t
    by true is some rest =
        ap (λ (b : Bool). track_of (newest ∷ older) (cond b (next_number older) (last_of older t))) is
        ∙ ap (λ (b : Bool). option_map (λ (o : Observation). o.track) (cond b (Some newest) (numbered older (next_number older)))) (eq-eqb (next_number older) (next_number older) refl)
        ∙ ap (λ (n : ℕ). Some n) (eqb-true _ _ is)
    by false is some rest =
        ap (λ (b : Bool). track_of (newest ∷ older) (cond b (next_number older) (last_of older t))) is
        ∙ older_number newest older (last_of older t) (last_low older t)
        ∙ rest (subst (λ (b : Bool). 0 < cond b (next_number older) (last_of older t)) is some)

some_more : (xs ys : List ℕ) → IsSome (slice_get xs 0) → IsSome (slice_get (xs ++ ys) 0)
some_more [] ys there = absurd (false≢true there)
some_more (x ∷ xs) ys there = refl

some_end : (xs : List ℕ) (y : ℕ) → IsSome (slice_get (xs ++ y ∷ []) 0)
some_end [] y = refl
some_end (x ∷ xs) y = refl

within_older : (newest : Observation) (older : List Observation) (k t : ℕ) → (k == next_number older) ≡ false → track_of (newest ∷ older) k ≡ Some t → (track_of older k ≡ Some t) × (k ≤ length older)
within_older newest older k t differs own =
    let here : track_of older k ≡ Some t = sym (ap (λ (b : Bool). option_map (λ (o : Observation). o.track) (cond b (Some newest) (numbered older k))) differs) ∙ own in
    (here, (numbered_within older k (there (numbered older k) here)).1)
  where
    there : (o : Option Observation) → option_map (λ (o : Observation). o.track) o ≡ Some t → IsSome o
    there None own = absurd (none-some t own)
    there (Some o) own = refl

-- any other observation of the tracklet has a later one
pub earlier_some : (observations : List Observation) (k t : ℕ) → track_of observations k ≡ Some t → k ≢ last_of observations t → IsSome (slice_get (later_of_track observations t k) 0)
earlier_some [] k t own other = absurd (none-some t own)
earlier_some (newest ∷ older) k t own other = by (k == next_number older) (newest.track == t) refl refl (earlier_some older k t)
  where
    by : (b own_track : Bool) → (k == next_number older) ≡ b → (newest.track == t) ≡ own_track
        → (track_of older k ≡ Some t → k ≢ last_of older t → IsSome (slice_get (later_of_track older t k) 0)) → IsSome (slice_get (later_of_track (newest ∷ older) t k) 0)
    by true own_track is is_track rest =
        let here : newest.track ≡ t = same_Some _ _ (sym (ap (λ (b : Bool). option_map (λ (o : Observation). o.track) (cond b (Some newest) (numbered older k))) is) ∙ own) in
        absurd (other (eqb-true _ _ is ∙ sym (ap (λ (b : Bool). cond b (next_number older) (last_of older t)) (eq-eqb newest.track t here))))
    by false true is is_track rest =
        let before = within_older newest older k t is own in
        let low : nat_lt k (next_number older) ≡ true = grind (arith, nat_tests, before.1) in
        subst (λ (b : Bool). IsSome (slice_get (later_of_track older t k ++ cond (b && nat_lt k (next_number older)) (next_number older ∷ []) []) 0)) (sym is_track)
        (subst (λ (b : Bool). IsSome (slice_get (later_of_track older t k ++ cond b (next_number older ∷ []) []) 0)) (sym low) (some_end (later_of_track older t k) (next_number older)))
    by false false is is_track rest =
        let before = within_older newest older k t is own in
        some_more (later_of_track older t k) _ (rest before.0 (λ same. other (same ∙ sym (ap (λ (b : Bool). cond b (next_number older) (last_of older t)) is_track))))

-- ---- one observation more

first_more : (xs : List ℕ) (n : ℕ) → ((k : ℕ) → slice_get xs 0 ≡ Some k → 0 < k) → unwrap_or (slice_get (xs ++ n ∷ []) 0) 0 ≡ cond (unwrap_or (slice_get xs 0) 0 == 0) n (unwrap_or (slice_get xs 0) 0)
first_more [] n positive = refl
first_more (x ∷ xs) n positive = sym (ap (λ (b : Bool). cond b n x) (ne_eqb x 0 (λ none. omega (arith, positive x refl))))

same_chain : (a b : Chain) → a.first ≡ b.first → a.last ≡ b.last → a.live ≡ b.live → a ≡ b
same_chain a b first last live =
    ap (λ (n : ℕ). kept n a.last a.live) first ∙ ap (λ (n : ℕ). kept b.first n a.live) last ∙ ap (λ (n : ℕ). kept b.first b.last n) live
  where
    kept : ℕ → ℕ → ℕ → Chain
    kept first last live = record { first = first; last = last; live = live }

module _ (newest : Observation) (older : List Observation) where
  -- the chain of its own tracklet is longer by one
  pub chain_own : newest.live ≡ true → chain_of (newest ∷ older) newest.track ≡ chain_after (chain_of older newest.track) (next_number older)
  chain_own live = same_chain (chain_of (newest ∷ older) newest.track) (chain_after (chain_of older newest.track) (next_number older)) first last count
    where
      t : ℕ
      t = newest.track

      own : (newest.track == newest.track) ≡ true
      own = eq-eqb newest.track newest.track refl

      high : nat_lt 0 (next_number older) ≡ true
      high = grind (arith, nat_tests)

      first : unwrap_or (first_of (newest ∷ older) newest.track) 0 ≡ cond (unwrap_or (first_of older newest.track) 0 == 0) (next_number older) (unwrap_or (first_of older newest.track) 0)
      first =
          ap (λ (b : Bool). unwrap_or (slice_get (later_of_track older newest.track 0 ++ cond (b && nat_lt 0 (next_number older)) (next_number older ∷ []) []) 0) 0) own
          ∙ ap (λ (b : Bool). unwrap_or (slice_get (later_of_track older newest.track 0 ++ cond b (next_number older ∷ []) []) 0) 0) high
          ∙ first_more (later_of_track older newest.track 0) (next_number older) (λ k is. (first_is older newest.track 0 k is).later)

      last : last_of (newest ∷ older) newest.track ≡ next_number older
      last = ap (λ (b : Bool). cond b (next_number older) (last_of older newest.track)) own

      count : count_by (is_live_of newest.track) (newest ∷ older) ≡ count_by (is_live_of newest.track) older + 1
      count =
          let more = sum_by-cons (λ (o : Observation). cond (is_live_of newest.track o) 1 0) newest older in
          let one : ◌≡◌ {A = ℕ} (cond (newest.live && (newest.track == newest.track)) 1 0) 1 = ap (λ (b : Bool). cond (b && (newest.track == newest.track)) 1 0) live ∙ ap (λ (b : Bool). cond b 1 0) own in
          omega arith

  -- the others stay
  pub chain_other : (t : ℕ) → (newest.track == t) ≡ false → chain_of (newest ∷ older) t ≡ chain_of older t
  chain_other t other = same_chain (chain_of (newest ∷ older) t) (chain_of older t) first last count
    where
      first : unwrap_or (first_of (newest ∷ older) t) 0 ≡ unwrap_or (first_of older t) 0
      first =
          ap (λ (b : Bool). unwrap_or (slice_get (later_of_track older t 0 ++ cond (b && nat_lt 0 (next_number older)) (next_number older ∷ []) []) 0) 0) other
          ∙ ap (λ (xs : List ℕ). unwrap_or (slice_get xs 0) 0) (append-nil (later_of_track older t 0))

      last : last_of (newest ∷ older) t ≡ last_of older t
      last = ap (λ (b : Bool). cond b (next_number older) (last_of older t)) other

      no_one : (b : Bool) → ◌≡◌ {A = ℕ} (cond (b && false) 1 0) 0
      no_one true = refl
      no_one false = refl

      count : count_by (is_live_of t) (newest ∷ older) ≡ count_by (is_live_of t) older
      count =
          let more = sum_by-cons (λ (o : Observation). cond (is_live_of t o) 1 0) newest older in
          let none : ◌≡◌ {A = ℕ} (cond (newest.live && (newest.track == t)) 1 0) 0 = ap (λ (b : Bool). cond (newest.live && b) 1 0) other ∙ no_one newest.live in
          omega arith

  -- nothing comes after the newest one
  pub next_newest : unwrap_or (next_of (newest ∷ older) (next_number older)) 0 ≡ 0
  next_newest = by (track_of (newest ∷ older) (next_number older))
    where
      by : (own : Option ℕ) → unwrap_or (option_and_then (λ (t : ℕ). slice_get (later_of_track (newest ∷ older) t (next_number older)) 0) own) 0 ≡ 0
      by None = refl
      by (Some t) = ap (λ (xs : List ℕ). unwrap_or (slice_get xs 0) 0) (later_none (newest ∷ older) t (next_number older) (omega arith))

  -- it comes after the last one of its tracklet
  pub next_last : 0 < last_of older newest.track → unwrap_or (next_of (newest ∷ older) (last_of older newest.track)) 0 ≡ next_number older
  next_last some =
      let k = last_of older newest.track in
      let low : k ≤ length older = last_low older newest.track in
      let high : nat_lt k (next_number older) ≡ true = grind (arith, nat_tests) in
      ap (λ (own : Option ℕ). unwrap_or (option_and_then (λ (t : ℕ). slice_get (later_of_track (newest ∷ older) t k) 0) own) 0) (older_number newest older k low ∙ last_own older newest.track some)
      ∙ ap (λ (xs : List ℕ). unwrap_or (slice_get (xs ++ cond ((newest.track == newest.track) && nat_lt k (next_number older)) (next_number older ∷ []) []) 0) 0) (last_later older newest.track)
      ∙ ap (λ (b : Bool). unwrap_or (slice_get (cond (b && nat_lt k (next_number older)) (next_number older ∷ []) []) 0) 0) (eq-eqb newest.track newest.track refl)
      ∙ ap (λ (b : Bool). unwrap_or (slice_get (cond b (next_number older ∷ []) []) 0) 0) high

  -- and changes nothing for the others
  pub next_other : (k : ℕ) → k ≤ length older → k ≢ last_of older newest.track → unwrap_or (next_of (newest ∷ older) k) 0 ≡ unwrap_or (next_of older k) 0
  next_other k low other =
      ap (λ (own : Option ℕ). unwrap_or (option_and_then (λ (t : ℕ). slice_get (later_of_track (newest ∷ older) t k) 0) own) 0) (older_number newest older k low)
      ∙ by (track_of older k) refl
    where
      kept : (xs ys : List ℕ) → IsSome (slice_get xs 0) → slice_get (xs ++ ys) 0 ≡ slice_get xs 0
      kept [] ys there = absurd (false≢true there)
      kept (x ∷ xs) ys there = refl

      by : (own : Option ℕ) → track_of older k ≡ own
          → unwrap_or (option_and_then (λ (t : ℕ). slice_get (later_of_track (newest ∷ older) t k) 0) own) 0 ≡ unwrap_or (option_and_then (λ (t : ℕ). slice_get (later_of_track older t k) 0) own) 0
      by None is = refl
      by (Some t) is = own_or (newest.track == t) refl
        where
          own_or : (b : Bool) → (newest.track == t) ≡ b → unwrap_or (slice_get (later_of_track (newest ∷ older) t k) 0) 0 ≡ unwrap_or (slice_get (later_of_track older t k) 0) 0
          own_or true same =
              let there : IsSome (slice_get (later_of_track older t k) 0) =
              earlier_some older k t is (λ last. other (last ∙ ap (last_of older) (sym (eqb-true _ _ same)))) in
              ap (λ (o : Option ℕ). unwrap_or o 0) (kept (later_of_track older t k) (cond ((newest.track == t) && nat_lt k (next_number older)) (next_number older ∷ []) []) there)
          own_or false differs =
              ap (λ (b : Bool). unwrap_or (slice_get (later_of_track older t k ++ cond (b && nat_lt k (next_number older)) (next_number older ∷ []) []) 0) 0) differs
              ∙ ap (λ (xs : List ℕ). unwrap_or (slice_get xs 0) 0) (append-nil (later_of_track older t k))

-- ---- all chains

pub chained_more : (tracks : ℕ) (newest : Observation) (older : List Observation) (chains : List Chain) (links : List ℕ) (chain : Chain) → AreChained tracks older chains links
    → 0 < newest.track → newest.track ≤ tracks → newest.live ≡ true → chain ≡ get_or chains (newest.track - 1) chain
    → AreChained tracks (newest ∷ older) (set chains (newest.track - 1) (chain_after chain (next_number older))) (links_after links chain.last (next_number older))
chained_more tracks newest older chains links chain was some there live read = record {
  as_many_chains = length-set chains (newest.track - 1) (chain_after chain (next_number older)) ∙ was.as_many_chains;
  as_many_links = by_last_length (chain.last == 0);
  chain_is = chain_is;
  link_is = link_is;
}
  where
    within : newest.track - 1 < length chains
    within = omega (arith, was.as_many_chains)

    back : newest.track - 1 + 1 ≡ newest.track
    back = omega arith

    chain_was : chain ≡ chain_of older newest.track
    chain_was = read ∙ was.chain_is (newest.track - 1) chain within ∙ ap (chain_of older) back

    last_is : chain.last ≡ last_of older newest.track
    last_is = ap (λ (c : Chain). c.last) chain_was

    longer : length (links ++ 0 ∷ []) ≡ length (newest ∷ older)
    longer = length_push links 0 ∙ omega (arith, was.as_many_links)

    by_last_length : (b : Bool) → length (cond b (links ++ 0 ∷ []) (set (links ++ 0 ∷ []) (chain.last - 1) (next_number older))) ≡ length (newest ∷ older)
    by_last_length true = longer
    by_last_length false = length-set (links ++ 0 ∷ []) (chain.last - 1) (next_number older) ∙ longer

    chain_is : (place : ℕ) (d : Chain) → place < length (set chains (newest.track - 1) (chain_after chain (next_number older))) → get_or (set chains (newest.track - 1) (chain_after chain (next_number older))) place d ≡ chain_of (newest ∷ older) (place + 1)
    chain_is place d low = elim (cases_eq place (newest.track - 1)) [
      | inl same ↦
          ap (λ (n : ℕ). get_or (set chains (newest.track - 1) (chain_after chain (next_number older))) n d) same
          ∙ get_or-set_same chains (newest.track - 1) (chain_after chain (next_number older)) d within
          ∙ ap (λ (c : Chain). chain_after c (next_number older)) chain_was ∙ sym (chain_own newest older live) ∙ ap (chain_of (newest ∷ older)) (sym back ∙ sym (ap (λ (n : ℕ). n + 1) same))
      | inr other ↦
          get_or-set_other chains (newest.track - 1) place (chain_after chain (next_number older)) d other
          ∙ was.chain_is place d (subst (λ (n : ℕ). place < n) (length-set chains (newest.track - 1) (chain_after chain (next_number older))) low)
          ∙ sym (chain_other newest older (place + 1) (ne_eqb newest.track (place + 1) (λ same. other (omega arith))))
    ]

    -- a link that isn't the last one's
    plain : (place : ℕ) → place < length links + 1 → place + 1 ≢ last_of older newest.track → get_or (links ++ 0 ∷ []) place 0 ≡ unwrap_or (next_of (newest ∷ older) (place + 1)) 0
    plain place low other = elim (cases_lt place (length links)) [
      | inl inside ↦
          get_or_append_left links (0 ∷ []) 0 place inside ∙ was.link_is place inside
          ∙ sym (next_other newest older (place + 1) (omega (arith, was.as_many_links)) other)
      | inr end ↦
          let here : length links ≡ place = omega arith in
          let number : place + 1 ≡ next_number older = omega (arith, was.as_many_links) in
          get_or_push links 0 0 place here ∙ sym (next_newest newest older) ∙ ap (λ (k : ℕ). unwrap_or (next_of (newest ∷ older) k) 0) (sym number)
    ]

    link_is : (place : ℕ) → place < length (links_after links chain.last (next_number older)) → get_or (links_after links chain.last (next_number older)) place 0 ≡ unwrap_or (next_of (newest ∷ older) (place + 1)) 0
    link_is place low = by (chain.last == 0) refl
      where
        inside : place < length links + 1
        inside = omega (arith, by_last_length (chain.last == 0), was.as_many_links)

        by : (b : Bool) → (chain.last == 0) ≡ b → get_or (cond (chain.last == 0) (links ++ 0 ∷ []) (set (links ++ 0 ∷ []) (chain.last - 1) (next_number older))) place 0 ≡ unwrap_or (next_of (newest ∷ older) (place + 1)) 0
        by true is =
            let none : chain.last ≡ 0 = eqb-true _ _ is in
            ap (λ (b : Bool). get_or (cond b (links ++ 0 ∷ []) (set (links ++ 0 ∷ []) (chain.last - 1) (next_number older))) place 0) is
            ∙ plain place inside (λ same. absurd (omega (arith, last_is, none, same)))
        by false is =
            ap (λ (b : Bool). get_or (cond b (links ++ 0 ∷ []) (set (links ++ 0 ∷ []) (chain.last - 1) (next_number older))) place 0) is
            ∙ elim (cases_eq place (chain.last - 1)) [
              | inl same ↦ linked_last same
              | inr other ↦ get_or-set_other (links ++ 0 ∷ []) (chain.last - 1) place (next_number older) 0 other ∙ plain place inside (λ last. other (omega (arith, last, last_is)))
            ]
          where
            positive : 0 < chain.last
            positive = elim (cases_lt 0 chain.last) [ inl more ↦ more | inr none ↦ absurd (eqb-false chain.last 0 is (omega arith)) ]

            linked_last : place ≡ chain.last - 1 → get_or (set (links ++ 0 ∷ []) (chain.last - 1) (next_number older)) place 0 ≡ unwrap_or (next_of (newest ∷ older) (place + 1)) 0
            linked_last same =
                let last_positive : 0 < last_of older newest.track = omega (arith, positive, last_is) in
                let number : place + 1 ≡ last_of older newest.track = omega (arith, positive, last_is, same) in
                ap (λ (n : ℕ). get_or (set (links ++ 0 ∷ []) (chain.last - 1) (next_number older)) n 0) same
                ∙ get_or-set_same (links ++ 0 ∷ []) (chain.last - 1) (next_number older) 0 (omega (arith, longer, last_low older newest.track, last_is, positive))
                ∙ sym (next_last newest older last_positive) ∙ ap (λ (k : ℕ). unwrap_or (next_of (newest ∷ older) k) 0) (sym number)

-- ---- one tracklet more

-- of a tracklet that is new there is no observation
chain_none : (tracklets : List Tracklet) (observations : List Observation) (t : ℕ) → AreInTracklets tracklets observations → length tracklets < t → chain_of observations t ≡ record { first = 0; last = 0; live = 0 }
chain_none tracklets [] t there past = refl
chain_none tracklets (newest ∷ older) t there past =
    let low = numbered_within tracklets newest.track there.0 in
    chain_other newest older t (ne_eqb newest.track t (λ same. omega (arith, low.1, same))) ∙ chain_none tracklets older t there.1 past

pub chained_tracklet : (tracklets : List Tracklet) (observations : List Observation) (chains : List Chain) (links : List ℕ) → AreInTracklets tracklets observations
    → AreChained (length tracklets) observations chains links → AreChained (length tracklets + 1) observations (chains ++ record { first = 0; last = 0; live = 0 } ∷ []) links
chained_tracklet tracklets observations chains links there was = record {
  as_many_chains = length_push chains (record { first = 0; last = 0; live = 0 }) ∙ ap (λ (n : ℕ). n + 1) was.as_many_chains;
  as_many_links = was.as_many_links;
  chain_is = λ place d low. elim (cases_lt place (length chains)) [
    | inl inside ↦ get_or_append_left chains (record { first = 0; last = 0; live = 0 } ∷ []) d place inside ∙ was.chain_is place d inside
    | inr end ↦
        let all = length_push chains (record { first = 0; last = 0; live = 0 }) in
        let here : length chains ≡ place = omega (arith, all) in
        get_or_push chains (record { first = 0; last = 0; live = 0 }) d place here
        ∙ sym (chain_none tracklets observations (place + 1) there (omega (arith, was.as_many_chains)))
  ];
  link_is = was.link_is;
}

-- ---- a retraction

last_retracted : (observations : List Observation) (k t : ℕ) → last_of (with_retraction observations k) t ≡ last_of observations t
last_retracted [] k t = refl
last_retracted (newest ∷ older) k t = by (k == next_number older) (last_retracted older k t)
  where
    by : (b : Bool) → last_of (with_retraction older k) t ≡ last_of older t → last_of (cond b (record newest { live = false } ∷ older) (newest ∷ with_retraction older k)) t ≡ last_of (newest ∷ older) t
    by true rest = refl
    by false rest =
        ap (λ (n : ℕ). cond (newest.track == t) (n + 1) (last_of (with_retraction older k) t)) (length-changed_at (λ (o : Observation). record o { live = false }) older k)
        ∙ ap (λ (n : ℕ). cond (newest.track == t) (next_number older) n) rest

next_retracted : (observations : List Observation) (k number : ℕ) → next_of (with_retraction observations k) number ≡ next_of observations number
next_retracted observations k number =
    ap (option_and_then (λ (t : ℕ). slice_get (later_of_track (with_retraction observations k) t number) 0)) (read_unchanged (λ (o : Observation). o.track) (λ (o : Observation). record o { live = false }) (λ o. refl) observations k number)
    ∙ by (track_of observations number)
  where
    by : (own : Option ℕ) → option_and_then (λ (t : ℕ). slice_get (later_of_track (with_retraction observations k) t number) 0) own ≡ option_and_then (λ (t : ℕ). slice_get (later_of_track observations t number) 0) own
    by None = refl
    by (Some t) = ap (λ (xs : List ℕ). slice_get xs 0) (later_retracted observations k t number)

pub live_retracted : (observations : List Observation) (k t : ℕ) (o : Observation) → numbered observations k ≡ Some o → o.live ≡ true
    → count_by (is_live_of t) (with_retraction observations k) + cond (o.track == t) 1 0 ≡ count_by (is_live_of t) observations
live_retracted observations k t o there live =
    let all = count_changed (is_live_of t) (λ (o : Observation). record o { live = false }) observations k o there in
    let one : ◌≡◌ {A = ℕ} (cond (o.live && (o.track == t)) 1 0) (cond (o.track == t) 1 0) = ap (λ (b : Bool). cond (b && (o.track == t)) 1 0) live in
    omega arith

-- the chain of the tracklet has a live observation less
pub chained_retracted : (tracks : ℕ) (observations : List Observation) (k : ℕ) (o : Observation) (chains : List Chain) (links : List ℕ) (chain : Chain) (fewer : ℕ) → AreChained tracks observations chains links
    → numbered observations k ≡ Some o → o.live ≡ true → 0 < o.track → o.track ≤ tracks → chain ≡ get_or chains (o.track - 1) chain → fewer + 1 ≡ chain.live
    → AreChained tracks (with_retraction observations k) (set chains (o.track - 1) (record chain { live = fewer })) links
chained_retracted tracks observations k o chains links chain fewer was at live some there read less = record {
  as_many_chains = length-set chains (o.track - 1) (record chain { live = fewer }) ∙ was.as_many_chains;
  as_many_links = was.as_many_links ∙ sym (length-changed_at (λ (o : Observation). record o { live = false }) observations k);
  chain_is = chain_is;
  link_is = λ place low. was.link_is place low ∙ ap (λ (o : Option ℕ). unwrap_or o 0) (sym (next_retracted observations k (place + 1)));
}
  where
    within : o.track - 1 < length chains
    within = omega (arith, was.as_many_chains)

    back : o.track - 1 + 1 ≡ o.track
    back = omega arith

    chain_was : chain ≡ chain_of observations o.track
    chain_was = read ∙ was.chain_is (o.track - 1) chain within ∙ ap (chain_of observations) back

    count : count_by (is_live_of o.track) (with_retraction observations k) ≡ fewer
    count =
        let all = live_retracted observations k o.track o at live in
        let one : ◌≡◌ {A = ℕ} (cond (o.track == o.track) 1 0) 1 = ap (λ (b : Bool). cond b 1 0) (eq-eqb o.track o.track refl) in
        let had : chain.live ≡ count_by (is_live_of o.track) observations = ap (λ (c : Chain). c.live) chain_was in
        omega arith

    own : record chain { live = fewer } ≡ chain_of (with_retraction observations k) o.track
    own = same_chain (record chain { live = fewer }) (chain_of (with_retraction observations k) o.track)
        (ap (λ (c : Chain). c.first) chain_was ∙ ap (λ (xs : List ℕ). unwrap_or (slice_get xs 0) 0) (sym (later_retracted observations k o.track 0)))
        (ap (λ (c : Chain). c.last) chain_was ∙ sym (last_retracted observations k o.track))
        (sym count)

    others : (t : ℕ) → o.track ≢ t → chain_of (with_retraction observations k) t ≡ chain_of observations t
    others t other = same_chain (chain_of (with_retraction observations k) t) (chain_of observations t)
        (ap (λ (xs : List ℕ). unwrap_or (slice_get xs 0) 0) (later_retracted observations k t 0))
        (last_retracted observations k t)
        (let all = live_retracted observations k t o at live in
        let none : ◌≡◌ {A = ℕ} (cond (o.track == t) 1 0) 0 = ap (λ (b : Bool). cond b 1 0) (ne_eqb o.track t other) in
        omega arith)

    chain_is : (place : ℕ) (d : Chain) → place < length (set chains (o.track - 1) (record chain { live = fewer })) → get_or (set chains (o.track - 1) (record chain { live = fewer })) place d ≡ chain_of (with_retraction observations k) (place + 1)
    chain_is place d low = elim (cases_eq place (o.track - 1)) [
      | inl same ↦
          ap (λ (n : ℕ). get_or (set chains (o.track - 1) (record chain { live = fewer })) n d) same
          ∙ get_or-set_same chains (o.track - 1) (record chain { live = fewer }) d within
          ∙ own ∙ ap (chain_of (with_retraction observations k)) (sym back ∙ sym (ap (λ (n : ℕ). n + 1) same))
      | inr other ↦
          get_or-set_other chains (o.track - 1) place (record chain { live = fewer }) d other
          ∙ was.chain_is place d (subst (λ (n : ℕ). place < n) (length-set chains (o.track - 1) (record chain { live = fewer })) low)
          ∙ sym (others (place + 1) (λ same. other (omega arith)))
    ]
