-- The index of homes, as tracklets come and get other homes, and what is read from it.
use Rattle.std.proofs.Common.{◌≡◌, ℕ, ◌+◌, ◌<◌, ◌≤◌, Bool, true, false, cond, List, [], ◌∷◌, ◌++◌, length, Option, Some, None, refl, ap, sym, subst, ◌∙◌, arith}
use Rattle.std.specs.Prelude.{◌==◌, ◌&&◌, ◌||◌, not, nat_lt, slice_get, IsSome, is_some, is_none, IfSome}
use Rattle.std.specs.Option.{option_and_then}
use Rattle.std.specs.declared.cmp.Ordering.{Ordering}
use Rattle.std.specs.declared.cmp.Ordering.TheVariants.{Less, Equal, Greater}
use Rattle.std.specs.Ordering.{is_eq, eq_by_cmp, nat_cmp, ordering_then, ordering_reverse}
use Rattle.std.proofs.lemmas.Bool.{false≢true, eqb-true, eqb-false, eq-eqb, ne_eqb, lt-ltb}
use Rattle.std.proofs.lemmas.Bool.Decides.{nat_tests}
use Rattle.std.proofs.lemmas.Cmp.{tied_itself}
use Rattle.std.proofs.lemmas.List.Sums.{sum_by-cons}
use borrow.Author.Tests.{ltb-true}
use Rattle.packed_names.specs.declared.name.Designation.{Designation}
use Rattle.packed_names.specs.Laws.{OrderLaws}
use Rattle.packed_names.specs.Order.{designation_cmp}
use Rattle.ordered_list.specs.Orders.{found, IsNextAbove}
use Rattle.tracklet_file.specs.declared.homes.HomeEntry.{HomeEntry}
use Rattle.tracklet_file.specs.contracts.homes.HomeEntryOrd.TheImpl as derived
use Rattle.tracklet_file.specs.declared.tracklet.Tracklet.{Tracklet}
use Rattle.tracklet_file.specs.Numbering.{next_number, numbered}
use Rattle.tracklet_file.specs.Tracklets.{IsTracklet, home_of, with_home, is_home, later_at, next_at}
use Rattle.tracklet_file.specs.Homes.{home_entry, is_entry, KeptHomes, IsHomed, isolated_tracks_in, number_at}
use Rattle.tracklet_file.proofs.NumberingLemmas.{numbered_within}
use Rattle.tracklet_file.proofs.CountLemmas.{count_changed, count_some, home_of_given, home_of_others}

abbrev pub cmp : HomeEntry → HomeEntry → Ordering
cmp = (derived.ghosts).cmp

-- ---- numbers and homes

-- no item has a number from the next one on
none_above : {A : Type 0} (items : List A) (number : ℕ) → next_number items ≤ number → numbered items number ≡ None
none_above items number above = by (numbered items number) refl
  where
    by : (o : Option _) → numbered items number ≡ o → numbered items number ≡ None
    by None is = is
    by (Some item) is = let inside = numbered_within items number (ap is_some is) in absurd (omega (arith, inside.1))

newest_home : (newest : Tracklet) (older : List Tracklet) → home_of (newest ∷ older) (next_number older) ≡ newest.home
newest_home newest older =
    ap (λ (b : Bool). option_and_then (λ (t : Tracklet). t.home) (cond b (Some newest) (numbered older (next_number older)))) (eq-eqb (next_number older) (next_number older) refl)

older_home : (newest : Tracklet) (older : List Tracklet) (t : ℕ) → (t == next_number older) ≡ false → home_of (newest ∷ older) t ≡ home_of older t
older_home newest older t differs = ap (λ (b : Bool). option_and_then (λ (t : Tracklet). t.home) (cond b (Some newest) (numbered older t))) differs

no_home : (d : Designation) (tracklets : List Tracklet) (t : ℕ) → next_number tracklets ≤ t → is_home d (home_of tracklets t) ≡ false
no_home d tracklets t above = ap (λ (o : Option Tracklet). is_home d (option_and_then (λ (t : Tracklet). t.home) o)) (none_above tracklets t above)

home_within : (d : Designation) (tracklets : List Tracklet) (t : ℕ) → is_home d (home_of tracklets t) ≡ true → t ≤ length tracklets
home_within d tracklets t is = by (numbered tracklets t) refl is
  where
    by : (o : Option Tracklet) → numbered tracklets t ≡ o → is_home d (option_and_then (λ (t : Tracklet). t.home) o) ≡ true → t ≤ length tracklets
    by None at is = absurd (false≢true is)
    by (Some tracklet) at is = (numbered_within tracklets t (ap is_some at)).1

-- ---- the tracklets of a designation

-- where no later tracklet was given to the designation there is none
later_none : (tracklets : List Tracklet) (d : Designation) (after : ℕ) → ((t : ℕ) → after < t → is_home d (home_of tracklets t) ≡ false) → later_at tracklets d after ≡ []
later_none [] d after none = refl
later_none (newest ∷ older) d after none =
    ap (λ (xs : List ℕ). xs ++ cond (is_home d newest.home && nat_lt after (next_number older)) (next_number older ∷ []) []) (later_none older d after older_none)
    ∙ ap (λ (b : Bool). cond b (next_number older ∷ []) []) (own (nat_lt after (next_number older)) refl)
  where
    older_none : (t : ℕ) → after < t → is_home d (home_of older t) ≡ false
    older_none t past = by (t == next_number older) refl
      where
        by : (b : Bool) → (t == next_number older) ≡ b → is_home d (home_of older t) ≡ false
        by true is = no_home d older t (omega (arith, eqb-true _ _ is))
        by false is = ap (is_home d) (sym (older_home newest older t is)) ∙ none t past

    neither : (b : Bool) → (b && false) ≡ false
    neither true = refl
    neither false = refl

    own : (b : Bool) → nat_lt after (next_number older) ≡ b → (is_home d newest.home && nat_lt after (next_number older)) ≡ false
    own true is =
        ap (λ (h : Bool). h && nat_lt after (next_number older)) (ap (is_home d) (sym (newest_home newest older)) ∙ none (next_number older) (ltb-true after (next_number older) is))
    own false is = ap (λ (b : Bool). is_home d newest.home && b) is ∙ neither (is_home d newest.home)

-- the least of the later ones is the first
later_first : (tracklets : List Tracklet) (d : Designation) (after t : ℕ) → after < t → is_home d (home_of tracklets t) ≡ true
    → ((u : ℕ) → after < u → u < t → is_home d (home_of tracklets u) ≡ false) → later_at tracklets d after ≡ t ∷ later_at tracklets d t
later_first [] d after t past is least = absurd (false≢true is)
later_first (newest ∷ older) d after t past is least = by (t == next_number older) refl (later_first older d after t past)
  where
    by : (b : Bool) → (t == next_number older) ≡ b
        → (is_home d (home_of older t) ≡ true → ((u : ℕ) → after < u → u < t → is_home d (home_of older u) ≡ false) → later_at older d after ≡ t ∷ later_at older d t)
        → later_at (newest ∷ older) d after ≡ t ∷ later_at (newest ∷ older) d t
    by true same rest =
        let here : t ≡ next_number older = eqb-true _ _ same in
        let own : is_home d newest.home ≡ true = ap (is_home d) (sym (newest_home newest older)) ∙ ap (λ (n : ℕ). is_home d (home_of (newest ∷ older) n)) (sym here) ∙ is in
        let low : nat_lt after (next_number older) ≡ true = lt-ltb after (next_number older) (omega arith) in
        ap (λ (xs : List ℕ). xs ++ cond (is_home d newest.home && nat_lt after (next_number older)) (next_number older ∷ []) []) (later_none older d after older_none)
        ∙ ap (λ (b : Bool). cond (b && nat_lt after (next_number older)) (next_number older ∷ []) []) own
        ∙ ap (λ (b : Bool). cond b (next_number older ∷ []) []) low
        ∙ ap (λ (n : ℕ). n ∷ []) (sym here)
        ∙ ap (λ (xs : List ℕ). t ∷ xs) (sym (later_none (newest ∷ older) d t (λ u high. no_home d (newest ∷ older) u (omega (arith, here, high)))))
      where
        older_none : (u : ℕ) → after < u → is_home d (home_of older u) ≡ false
        older_none u past = by_less (nat_lt u (next_number older)) refl
          where
            by_less : (b : Bool) → nat_lt u (next_number older) ≡ b → is_home d (home_of older u) ≡ false
            by_less true less =
                let below : u < next_number older = ltb-true u (next_number older) less in
                let differs : (u == next_number older) ≡ false = ne_eqb u (next_number older) (λ alike. absurd (omega (arith, alike, below))) in
                ap (is_home d) (sym (older_home newest older u differs)) ∙ least u past (omega (arith, below, eqb-true _ _ same))
            by_less false more = no_home d older u (grind (arith, nat_tests))
    by false differs rest =
        let older_is : is_home d (home_of older t) ≡ true = ap (is_home d) (sym (older_home newest older t differs)) ∙ is in
        let within : t ≤ length older = home_within d older t older_is in
        let low : nat_lt after (next_number older) ≡ true = lt-ltb after (next_number older) (omega arith) in
        let high : nat_lt t (next_number older) ≡ true = lt-ltb t (next_number older) (omega arith) in
        ap (λ (xs : List ℕ). xs ++ cond (is_home d newest.home && nat_lt after (next_number older)) (next_number older ∷ []) [])
        (rest older_is
        (λ u above below.
        ap (is_home d) (sym (older_home newest older u (ne_eqb u (next_number older) (λ alike. absurd (omega (arith, alike, below, within)))))) ∙ least u above below))
        ∙ ap (λ (b : Bool). t ∷ (later_at older d t ++ cond (is_home d newest.home && b) (next_number older ∷ []) [])) (low ∙ sym high)

-- a number is the first of the later tracklets of a designation, or there is none
abbrev IsFirst : List Tracklet → Designation → ℕ → Option ℕ → Type 0
IsFirst tracklets d after None = later_at tracklets d after ≡ []
IsFirst tracklets d after (Some t) = later_at tracklets d after ≡ t ∷ later_at tracklets d t

pub next_from : (tracklets : List Tracklet) (d : Designation) (after : ℕ) (number : Option ℕ) → IsFirst tracklets d after number → number ≡ next_at tracklets d after
next_from tracklets d after None is = sym (ap (λ (xs : List ℕ). slice_get xs 0) is)
next_from tracklets d after (Some t) is = sym (ap (λ (xs : List ℕ). slice_get xs 0) is)

pub rest_from : (tracklets : List Tracklet) (d : Designation) (after : ℕ) (number : Option ℕ) → IsFirst tracklets d after number
    → IfSome number (λ t. later_at tracklets d after ≡ t ∷ later_at tracklets d t)
rest_from tracklets d after None is = tt
rest_from tracklets d after (Some t) is = is

-- a tracklet without a home is counted
pub isolated_some : (tracklets : List Tracklet) (homes : KeptHomes) (t : ℕ) (was : Option Designation) → IsTracklet tracklets t → was ≡ home_of tracklets t → is_some was ≡ false → IsHomed cmp tracklets homes
    → 0 < homes.isolated
isolated_some tracklets homes t was there was_is none homed = subst (λ (n : ℕ). 0 < n) (sym homed.isolated_are) (by (numbered tracklets t) refl there)
  where
    by : (o : Option Tracklet) → numbered tracklets t ≡ o → IsSome o → 0 < isolated_tracks_in tracklets
    by None at there = absurd (false≢true there)
    by (Some tracklet) at there =
        count_some (λ (t : Tracklet). is_none t.home) tracklets t tracklet at
        (ap (λ (o : Option Tracklet). is_none (option_and_then (λ (t : Tracklet). t.home) o)) (sym at) ∙ ap is_none (sym was_is) ∙ ap not none)

-- ---- the order of entries

both_tie : (a b : Ordering) → is_eq (ordering_then a b) ≡ is_eq a && is_eq b
both_tie Less b = refl
both_tie Equal b = refl
both_tie Greater b = refl

numbers_tie : (a b : ℕ) → is_eq (nat_cmp a b) ≡ (a == b)
numbers_tie a b = grind (arith, nat_tests)

module _ (laws : OrderLaws) where
  order_is : (one other : HomeEntry) → cmp one other ≡ ordering_then (designation_cmp one.home other.home) (nat_cmp one.track other.track)
  order_is one other = ap (λ (o : Ordering). ordering_then o (nat_cmp one.track other.track)) (laws.compared one.home other.home)

  -- whether a key is that of a tracklet's entry
  entry_is : (d : Designation) (u : ℕ) (home : Option Designation) (t : ℕ) → is_entry cmp (home_entry d u) home t ≡ (is_home d home && (t == u))
  entry_is d u None t = refl
  entry_is d u (Some e) t =
      ap is_eq (order_is (home_entry e t) (home_entry d u)) ∙ both_tie (designation_cmp e d) (nat_cmp t u) ∙ ap (λ (b : Bool). eq_by_cmp designation_cmp e d && b) (numbers_tie t u)

  -- ---- changes

  turned : (t u : ℕ) (b : Bool) → (u == t) ≡ b → (t == u) ≡ b
  turned t u true same = eq-eqb t u (sym (eqb-true _ _ same))
  turned t u false differs = ne_eqb t u (λ alike. absurd (eqb-false _ _ differs (sym alike)))

  -- one more tracklet
  pub homed_more : (newest : Tracklet) (older tracklets' : List Tracklet) (homes after : KeptHomes) (number : ℕ) → IsHomed cmp older homes → number ≡ next_number older → tracklets' ≡ newest ∷ older
      → ((key : HomeEntry) → is_some (found cmp key after.entries) ≡ (is_entry cmp key newest.home number || is_some (found cmp key homes.entries)))
      → after.isolated ≡ homes.isolated + cond (is_none newest.home) 1 0 → homes.isolated < homes.room → homes.room + cond (is_none newest.home) 1 0 ≤ after.room + 1
      → IsHomed cmp tracklets' after
  homed_more newest older tracklets' homes after number was number_is tracklets_are finds isolated_is some room_is =
      subst (λ (ts : List Tracklet). IsHomed cmp ts after) (sym tracklets_are)
      record {
        entered = λ d u. finds (home_entry d u) ∙ ap (λ (b : Bool). b || is_some (found cmp (home_entry d u) homes.entries)) (entry_is d u newest.home number)
            ∙ ap (λ (b : Bool). (is_home d newest.home && (number == u)) || b) (was.entered d u) ∙ by d u (u == next_number older) refl;
        isolated_are = omega (arith, isolated_is, was.isolated_are, sum_by-cons (λ (t : Tracklet). cond (is_none t.home) 1 0) newest older);
        enough = omega arith;
      }
    where
      own : (a : Bool) → ((a && true) || false) ≡ a
      own true = refl
      own false = refl

      others : (a b : Bool) → ((a && false) || b) ≡ b
      others true b = refl
      others false b = refl

      by : (d : Designation) (u : ℕ) (b : Bool) → (u == next_number older) ≡ b → ((is_home d newest.home && (number == u)) || is_home d (home_of older u)) ≡ is_home d (home_of (newest ∷ older) u)
      by d u true same =
          let here : u ≡ next_number older = eqb-true _ _ same in
          ap (λ (b : Bool). (is_home d newest.home && b) || is_home d (home_of older u)) (eq-eqb number u (number_is ∙ sym here))
          ∙ ap (λ (b : Bool). (is_home d newest.home && true) || b) (no_home d older u (omega (arith, here)))
          ∙ own (is_home d newest.home)
          ∙ ap (is_home d) (sym (newest_home newest older) ∙ ap (home_of (newest ∷ older)) (sym here))
      by d u false differs =
          ap (λ (b : Bool). (is_home d newest.home && b) || is_home d (home_of older u)) (ap (λ (n : ℕ). n == u) number_is ∙ turned (next_number older) u false differs)
          ∙ others (is_home d newest.home) (is_home d (home_of older u))
          ∙ ap (is_home d) (sym (older_home newest older u differs))

  -- a tracklet with a home has its entry
  pub entry_there : (tracklets : List Tracklet) (homes : KeptHomes) (t : ℕ) (was : Option Designation) → was ≡ home_of tracklets t → IsHomed cmp tracklets homes
      → IfSome was (λ d. IsSome (found cmp (home_entry d t) homes.entries))
  entry_there tracklets homes t None is homed = tt
  entry_there tracklets homes t (Some d) is homed = homed.entered d t ∙ ap (is_home d) (sym is) ∙ ap is_eq (tied_itself laws.total d)

  -- another home for a tracklet
  pub homed_changed : (t : ℕ) (was home : Option Designation) (tracklets tracklets' : List Tracklet) (homes after : KeptHomes) → IsTracklet tracklets t → was ≡ home_of tracklets t
      → tracklets' ≡ with_home tracklets t home
      → ((key : HomeEntry) → is_some (found cmp key after.entries) ≡ (is_entry cmp key home t || (not (is_entry cmp key was t) && is_some (found cmp key homes.entries))))
      → after.isolated + cond (is_none was) 1 0 ≡ homes.isolated + cond (is_none home) 1 0 → homes.room + cond (is_none home) 1 0 ≤ after.room + cond (is_none was) 1 0
      → IsHomed cmp tracklets homes → IsHomed cmp tracklets' after
  homed_changed t was home tracklets tracklets' homes after there was_is tracklets_are finds isolated_is room_is homed =
      subst (λ (ts : List Tracklet). IsHomed cmp ts after) (sym tracklets_are)
      record {
        entered = λ d u. finds (home_entry d u)
            ∙ ap (λ (b : Bool). b || (not (is_entry cmp (home_entry d u) was t) && is_some (found cmp (home_entry d u) homes.entries))) (entry_is d u home t)
            ∙ ap (λ (b : Bool). (is_home d home && (t == u)) || (not b && is_some (found cmp (home_entry d u) homes.entries))) (entry_is d u was t)
            ∙ ap (λ (b : Bool). (is_home d home && (t == u)) || (not (is_home d was && (t == u)) && b)) (homed.entered d u)
            ∙ by d u (u == t) refl;
        isolated_are = recounted (numbered tracklets t) refl there was_is;
        enough = omega (arith, isolated_is, room_is, homed.enough);
      }
    where
      own : (a b : Bool) → ((a && true) || (not (b && true) && b)) ≡ a
      own true b = refl
      own false true = refl
      own false false = refl

      others : (a b c : Bool) → ((a && false) || (not (b && false) && c)) ≡ c
      others true true c = refl
      others true false c = refl
      others false true c = refl
      others false false c = refl

      by : (d : Designation) (u : ℕ) (b : Bool) → (u == t) ≡ b
          → ((is_home d home && (t == u)) || (not (is_home d was && (t == u)) && is_home d (home_of tracklets u))) ≡ is_home d (home_of (with_home tracklets t home) u)
      by d u true same =
          let here : u ≡ t = eqb-true _ _ same in
          ap (λ (b : Bool). (is_home d home && b) || (not (is_home d was && b) && is_home d (home_of tracklets u))) (turned t u true same)
          ∙ ap (λ (h : Option Designation). (is_home d home && true) || (not (is_home d was && true) && is_home d h)) (ap (home_of tracklets) here ∙ sym was_is)
          ∙ own (is_home d home) (is_home d was)
          ∙ ap (is_home d) (sym (home_of_given tracklets t home there) ∙ ap (home_of (with_home tracklets t home)) (sym here))
      by d u false differs =
          ap (λ (b : Bool). (is_home d home && b) || (not (is_home d was && b) && is_home d (home_of tracklets u))) (turned t u false differs)
          ∙ others (is_home d home) (is_home d was) (is_home d (home_of tracklets u))
          ∙ ap (is_home d) (sym (home_of_others tracklets t u home differs))

      recounted : (o : Option Tracklet) → numbered tracklets t ≡ o → IsSome o → was ≡ option_and_then (λ (t : Tracklet). t.home) o → after.isolated ≡ isolated_tracks_in (with_home tracklets t home)
      recounted None at there is = absurd (false≢true there)
      recounted (Some tracklet) at there is =
          let all = count_changed (λ (t : Tracklet). is_none t.home) (λ (t : Tracklet). record t { home = home }) tracklets t tracklet at in
          let old : ◌≡◌ {A = ℕ} (cond (is_none was) 1 0) (cond (is_none tracklet.home) 1 0) = ap (λ (h : Option Designation). cond (is_none h) 1 0) is in
          omega (arith, all, old, isolated_is, homed.isolated_are)

  -- ---- what is read

  own_order : (d : Designation) (t u : ℕ) → cmp (home_entry d t) (home_entry d u) ≡ nat_cmp t u
  own_order d t u = order_is (home_entry d t) (home_entry d u) ∙ ap (λ (o : Ordering). ordering_then o (nat_cmp t u)) (tied_itself laws.total d)

  greater : (a b : ℕ) → b < a → nat_cmp a b ≡ Greater
  greater a b past = grind (arith, nat_tests)

  less : (a b : ℕ) → a < b → nat_cmp a b ≡ Less
  less a b past = grind (arith, nat_tests)

  from_greater : (a b : ℕ) → nat_cmp a b ≡ Greater → b < a
  from_greater a b is = grind (arith, nat_tests)

  module _ (d : Designation) (after : ℕ) (tracklets : List Tracklet) (homes : KeptHomes) (homed : IsHomed cmp tracklets homes) where
    abbrev key : HomeEntry
    key = home_entry d after

    -- a later tracklet of the designation has an entry above the key
    has_entry : (t : ℕ) → is_home d (home_of tracklets t) ≡ true → IsSome (found cmp (home_entry d t) homes.entries)
    has_entry t is = homed.entered d t ∙ is

    is_above : (t : ℕ) → after < t → cmp (home_entry d t) key ≡ Greater
    is_above t past = own_order d t after ∙ greater t after past

    refuted : (b : Bool) → (b ≡ true → ⊥) → b ≡ false
    refuted true never = absurd (never refl)
    refuted false never = refl

    none_later : IsNextAbove cmp key homes.entries None → (t : ℕ) → after < t → is_home d (home_of tracklets t) ≡ false
    none_later none t past = refuted (is_home d (home_of tracklets t)) (λ is. none (home_entry d t) (has_entry t is) (is_above t past))

    -- an entry of another designation above the key is above all of this one's
    past_all : (entry : HomeEntry) → eq_by_cmp designation_cmp entry.home d ≡ false → cmp entry key ≡ Greater → (t : ℕ) → cmp (home_entry d t) entry ≡ Less
    past_all entry other above t = by (designation_cmp entry.home d) refl
      where
        by : (o : Ordering) → designation_cmp entry.home d ≡ o → cmp (home_entry d t) entry ≡ Less
        by Less is =
            let low : cmp entry key ≡ Less = order_is entry key ∙ ap (λ (o : Ordering). ordering_then o (nat_cmp entry.track after)) is in
            let both = sym low ∙ above in cc
        by Equal is = absurd (false≢true (sym other ∙ ap is_eq is))
        by Greater is =
            order_is (home_entry d t) entry ∙ ap (λ (o : Ordering). ordering_then o (nat_cmp t entry.track)) (laws.total.antisymm d entry.home ∙ ap ordering_reverse is)

    pub first_at : (r : Option HomeEntry) → IsNextAbove cmp key homes.entries r → IsFirst tracklets d after (number_at d r)
    first_at None none = later_none tracklets d after (none_later none)
    first_at (Some entry) next = by (eq_by_cmp designation_cmp entry.home d) refl
      where
        by : (b : Bool) → eq_by_cmp designation_cmp entry.home d ≡ b → IsFirst tracklets d after (cond (eq_by_cmp designation_cmp entry.home d) (Some entry.track) None)
        by false other =
            subst (λ (b : Bool). IsFirst tracklets d after (cond b (Some entry.track) None)) (sym other)
            (later_none tracklets d after
            (λ t past. refuted (is_home d (home_of tracklets t)) (λ is. next.least (home_entry d t) (has_entry t is) (is_above t past) (past_all entry other next.above t))))
        by true own =
            subst (λ (b : Bool). IsFirst tracklets d after (cond b (Some entry.track) None)) (sym own)
            (later_first tracklets d after entry.track (from_greater entry.track after (sym (own_order d entry.track after) ∙ ap (λ (e : HomeEntry). cmp e key) (sym is_own) ∙ next.above)) there
            (λ u past before. refuted (is_home d (home_of tracklets u))
            (λ is. next.least (home_entry d u) (has_entry u is) (is_above u past) (ap (cmp (home_entry d u)) is_own ∙ own_order d u entry.track ∙ less u entry.track before))))
          where
            is_own : entry ≡ home_entry d entry.track
            is_own = ap (λ (h : Designation). home_entry h entry.track) ((laws.designations entry.home d).0 own)

            there : is_home d (home_of tracklets entry.track) ≡ true
            there = sym (homed.entered d entry.track) ∙ ap (λ (e : HomeEntry). is_some (found cmp e homes.entries)) (sym is_own) ∙ ap is_some next.there
