-- The places of observations, as more are filed, put into the index and retracted. The lists here stand oldest first.
use Rattle.std.proofs.Common.{◌≡◌, ℕ, ℤ, ◌+◌, ◌-◌, ◌<◌, ◌≤◌, ◌<ℤ◌, ◌≤ℤ◌, zero, suc, Bool, true, false, cond, List, [], ◌∷◌, ◌++◌, length, get_or, set, take, drop, map, refl, ap, sym, subst, ◌∙◌, inl, inr, arith, rules}
use Rattle.std.specs.Prelude.{◌&&◌, ◌||◌, ◌==◌, nat_lt, reverse, int_lt, Result, Ok, Err, MatchResult, All, slice_index}
use Rattle.std.specs.List.{list_any}
use Rattle.std.specs.List.Sorted.{IsSearchInRange, IsBinarySearchResult, IsSortedBy}
use Rattle.std.specs.Ordering.{int_cmp, int_eq, is_lt}
use Rattle.std.specs.declared.cmp.Ordering.TheVariants.{Less, Equal, Greater}
use Rattle.std.proofs.lemmas.Bool.{cases_eq, cases_lt, and_parts}
use Rattle.std.proofs.lemmas.Bool.Decides.{Decides-int_eq}
use Rattle.std.proofs.lemmas.Cmp.{int_cmp_total, int_ranked}
use Rattle.std.proofs.lemmas.Int.{ints}
use Rattle.std.proofs.lemmas.List.{take-append-drop, take-append-le, take_all, take-set-le, length-append, length-drop, length-set, length-take-le, length-map, map-append, get_or_append_left, get_or_push, get_or-map, get_or-take, get_or-set_same, get_or-set_other, get_or_default}
use Rattle.std.proofs.lemmas.List.Elements.{All-append}
use Rattle.std.proofs.lemmas.List.Folds.{list_any-append, list_any_none, list_any_at}
use Rattle.std.proofs.lemmas.List.Sorted.{searchable_from_sorted, list_any-IsPermutation, IsPermutation-reverse}
use Rattle.obs_record.specs.declared.line.Line.{Line}
use Rattle.obs_record.specs.declared.rule.RuleCode.{RuleCode}
use Rattle.obs_record.specs.declared.sighting.Sighting.{Sighting}
use Rattle.obs_record.specs.declared.short.Short.{Short}
use Rattle.place_keys.specs.declared.place.PlaceKey.{PlaceKey}
use Rattle.place_keys.specs.Places.{key_at, place_key}
use Rattle.tracklet_file.specs.declared.observation.Observation.{Observation}
use Rattle.tracklet_file.specs.Observations.{is_live_at, has_live, is_live_reading, is_live_line}
use Rattle.tracklet_file.specs.Places.{counts_at, mark_of, mark_in, asked_reading, asked, has_mark, time_of, AscendFrom, KeptPlaces, IsIndexed}
use Rattle.tracklet_file.proofs.PlaceLemmas.{same_key, same_at}

-- ---- tests of times

lt_told : (x y : ℤ) → int_lt x y ≡ true → x <ℤ y
lt_told x y told = omega (arith, ints)

eq_false : (x y : ℤ) → (x ≡ y → ⊥) → int_eq x y ≡ false
eq_false x y differs = by (int_eq x y) refl
  where
    by : (b : Bool) → int_eq x y ≡ b → b ≡ false
    by false is = refl
    by true is = absurd (differs ((Decides-int_eq x y).0 is))

third_false : (a b c d : Bool) → c ≡ false → a && (b && (c && d)) ≡ false
third_false true true c d wrong = ap (λ (x : Bool). x && d) wrong
third_false true false c d wrong = refl
third_false false b c d wrong = refl

fourth_false : (a b c d e : Bool) → d ≡ false → a && (b && (c && (d && e))) ≡ false
fourth_false true true true d e wrong = ap (λ (x : Bool). x && e) wrong
fourth_false true true false d e wrong = refl
fourth_false true false c d e wrong = refl
fourth_false false b c d e wrong = refl

-- an observation at another time doesn't have the place
pub not_at : (key : PlaceKey) (o : Observation) → (time_of o ≡ key.time → ⊥) → counts_at key o ≡ false
not_at key o differs = let own = place_key o.sighting in fourth_false o.live _ _ (int_eq own.time key.time) _ (eq_false own.time key.time differs)

-- ---- a list in two parts

module _ (p : Observation → Bool) (n : ℕ) (filed : List Observation) where
  pub rest_is : take (length filed - n) (drop n filed) ≡ drop n filed
  rest_is = take_all (length filed - n) (drop n filed) (omega (arith, length-drop n filed))

  pub any_parts : list_any p filed ≡ (list_any p (take n filed) || list_any p (drop n filed))
  any_parts = ap (list_any p) (sym (take-append-drop n filed)) ∙ list_any-append p (take n filed) (drop n filed)

-- ---- a search by time

any_at : (p : Observation → Bool) (os : List Observation) (place : ℕ) (d : Observation) → place < length os → ((j : ℕ) (d : Observation) → j < length os → (j ≡ place → ⊥) → p (get_or os j d) ≡ false) → p (get_or os place d) ≡ list_any p os
any_at p [] place d within others = absurd (omega (arith, within))
any_at p (o ∷ later) zero d within others = only (p o) (list_any p later) (list_any_none p later (λ j e below. others (suc j) e (omega (arith, below)) (λ same. absurd (omega (arith, same)))))
  where
    only : (a b : Bool) → b ≡ false → a ≡ (a || b)
    only true b none = refl
    only false b none = sym none
any_at p (o ∷ later) (suc place) d within others =
    any_at p later place d (omega (arith, within)) (λ j e below differs. others (suc j) e (omega (arith, below)) (λ same. differs (omega (arith, same))))
    ∙ sym (ap (λ (b : Bool). b || list_any p later) (others 0 d (omega arith) (λ same. absurd (omega (arith, same)))))

any_one : (p : Observation → Bool) (os : List Observation) (place : ℕ) → place < length os → ((d : Observation) → p (get_or os place d) ≡ true) → list_any p os ≡ true
any_one p [] place within one = absurd (omega (arith, within))
any_one p (o ∷ later) zero within one = ap (λ (b : Bool). b || list_any p later) (one o)
any_one p (o ∷ later) (suc place) within one = ap (λ (b : Bool). p o || b) (any_one p later place (omega (arith, within)) one) ∙ or_true (p o)
  where
    or_true : (b : Bool) → (b || true) ≡ true
    or_true true = refl
    or_true false = refl

not_less : (x y : ℤ) → y <ℤ x → is_lt (int_cmp x y) ≡ false
not_less x y above = by (int_lt x y) (int_lt y x) refl
  where
    by : (a b : Bool) → int_lt x y ≡ a → is_lt (cond a Less (cond b Greater Equal)) ≡ false
    by true b is = absurd (omega (arith, ints))
    by false true is = refl
    by false false is = refl

module _ (os : List Observation) (ascend : AscendFrom 0 os) (key : PlaceKey) where
  ascend_plain : IsSortedBy (λ a b. is_lt (int_cmp (time_of a) (time_of b))) os
  ascend_plain k d low within = not_less (time_of (get_or os (k + 1) d)) (time_of (get_or os k d)) (ascend k (k + 1) d (omega arith) (omega arith) within)

  apart : (i j : ℕ) (d : Observation) → i < length os → j < length os → (i ≡ j → ⊥) → time_of (get_or os i d) ≡ time_of (get_or os j d) → ⊥
  apart i j d first second differs same = elim (cases_lt i j) [
    | inl low ↦ (let less = ascend i j d (omega arith) low second in omega (arith, ints))
    | inr high ↦ (let less = ascend j i d (omega arith) (omega (arith, high, differs)) first in omega (arith, ints))
  ]

  -- the one that is found is the only one at its time
  found_at : (place : ℕ) (d : Observation) → place < length os → time_of (get_or os place d) ≡ key.time → counts_at key (get_or os place d) ≡ list_any (counts_at key) os
  found_at place d within at =
      any_at (counts_at key) os place d within
      (λ j e below differs. not_at key (get_or os j e) (λ same. apart j place e below within differs (same ∙ sym at ∙ ap time_of (get_or_default os place d e within))))

  -- what a search by halving tells
  pub searched : (r : Result ℕ ℕ) → IsSearchInRange r (length os) → IsBinarySearchResult (λ o. int_cmp (time_of o) key.time) os r
      → MatchResult r (λ place. (d : Observation) → counts_at key (get_or os place d) ≡ list_any (counts_at key) os) (λ gap. false ≡ list_any (counts_at key) os)
  searched (Ok place) within equal = λ d. found_at place d within (int_ranked _ key.time _ (sym (equal d)))
  searched (Err gap) within parted =
      let parts = parted (searchable_from_sorted int_cmp_total time_of os key.time ascend_plain) in
      sym (list_any_none (counts_at key) os (λ j d below. not_at key (get_or os j d) (λ same. elim (cases_lt j gap) [
        | inl low ↦ (let less = int_ranked _ key.time _ (sym (parts.0 j d (omega arith) low)) in omega (arith, ints))
        | inr high ↦ (let more = int_ranked _ key.time _ (sym (parts.1 j d high below)) in omega (arith, ints))
      ])))

-- ---- marks

-- an observation without a mark at one of the first places: the others keep their marks
mark_taken : (n place : ℕ) (filed : List Observation) (x : Observation) → mark_in x ≡ 0 → place < n → map mark_in (take n (set filed place x)) ≡ set (map mark_in (take n filed)) place 0
mark_taken zero place filed x none within = absurd (omega (arith, within))
mark_taken (suc n) place [] x none within = refl
mark_taken (suc n) zero (o ∷ later) x none within = ap (λ (m : ℕ). m ∷ map mark_in (take n later)) none
mark_taken (suc n) (suc place) (o ∷ later) x none within = ap (λ (ms : List ℕ). mark_in o ∷ ms) (mark_taken n place later x none (omega (arith, within)))

-- ---- places and keys

-- what counts at a key is what is live at its station, time and position
pub counted_at : (filed : List Observation) (station : Short) (time : ℤ) (ra : ℕ) (dec : ℤ) → list_any (counts_at (key_at station time ra dec)) filed ≡ has_live filed station time ra dec
counted_at filed station time ra dec =
    let counts : (o : Observation) → counts_at (key_at station time ra dec) o ≡ is_live_at station time ra dec o = λ o. ap (λ (b : Bool). o.live && b) (same_at station time ra dec o.sighting) in
    ap (λ (p : Observation → Bool). list_any p filed) (λ i o. counts o i)

-- the oldest first or the newest
pub in_order_of_age : (filed : List Observation) (station : Short) (time : ℤ) (ra : ℕ) (dec : ℤ) → has_live filed station time ra dec ≡ has_live (reverse filed) station time ra dec
in_order_of_age filed station time ra dec = list_any-IsPermutation (is_live_at station time ra dec) filed (reverse filed) (IsPermutation-reverse filed)

-- the mark that is asked for one of a block of lines
pub mark_asked_at : (latest : ℤ) (block : List Line) (marks : List ℕ) (place : ℕ) (d : Line) → take (length block) marks ≡ map (asked latest) block → place < length block → slice_index marks place ≡ asked latest (get_or block place d)
mark_asked_at latest block marks place d made within =
    sym (get_or-take (length block) marks place 0 within)
    ∙ ap (λ (ms : List ℕ). get_or ms place 0) made
    ∙ get_or-map (asked latest) block place d 0 within

-- ---- changes

module _ (filed : List Observation) (places : KeptPlaces) (was : IsIndexed filed places) where
  abbrev n : ℕ
  n = length places.marks

  -- none is as late as a time
  pub none_as_late : (station : Short) (time : ℤ) (ra : ℕ) (dec : ℤ) → int_lt places.latest time ≡ true → list_any (is_live_at station time ra dec) filed ≡ false
  none_as_late station time ra dec late = list_any_none (is_live_at station time ra dec) filed (λ k d within.
      let low = was.up_to k d within in
      let high = lt_told places.latest time late in
      third_false (get_or filed k d).live _ (int_eq (time_of (get_or filed k d)) time) _ (eq_false (time_of (get_or filed k d)) time (λ same. absurd (omega (arith, ints)))))

  -- the mark of one of the first
  pub mark_at : (place : ℕ) (d : Observation) → place < n → slice_index places.marks place ≡ mark_in (get_or filed place d)
  mark_at place d within =
      ap (λ (ms : List ℕ). slice_index ms place) was.marks_are
      ∙ get_or-map mark_in (take n filed) place d 0 (omega (arith, within, length-take-le n filed was.within))
      ∙ ap mark_in (get_or-take n filed place d within)

  -- where none of those with a key's mark counts, none of the first does
  pub none_marked : (key : PlaceKey) → ((place : ℕ) (d : Observation) → place < n → slice_index places.marks place ≡ mark_of key → counts_at key (get_or filed place d) ≡ false)
      → list_any (counts_at key) (take n filed) ≡ false
  none_marked key none = list_any_none (counts_at key) (take n filed) (λ k d below.
      let within : k < n = omega (arith, below, length-take-le n filed was.within) in
      ap (counts_at key) (get_or-take n filed k d within) ∙ by k d within (counts_at key (get_or filed k d)) refl)
    where
      by : (k : ℕ) (d : Observation) → k < n → (b : Bool) → counts_at key (get_or filed k d) ≡ b → counts_at key (get_or filed k d) ≡ false
      by k d within false is = is
      by k d within true is =
          let o = get_or filed k d in
          let parts = and_parts o.live _ is in
          none k d within (mark_at k d within ∙ ap (λ (b : Bool). cond b (mark_of (place_key o.sighting)) 0) parts.0 ∙ ap mark_of (same_key _ key parts.1))

  -- where all are in the index, and none has the mark that is asked for a line, none has the line's place
  module _ (all : n ≡ length filed) where
    unmarked_reading : (read : Result Sighting RuleCode) → has_mark places.marks (asked_reading places.latest read) ≡ false → is_live_reading (has_live filed) read ≡ false
    unmarked_reading (Err rule) none = refl
    unmarked_reading (Ok s) none = by (int_lt places.latest s.time) refl
      where
        above : nat_lt 0 (mark_of (place_key s)) ≡ true
        above = grind arith

        without : list_any (λ own. own == mark_of (place_key s)) places.marks ≡ false → has_live filed s.station s.time s.ra s.dec ≡ false
        without none =
            sym (counted_at filed s.station s.time s.ra s.dec)
            ∙ ap (list_any (counts_at (place_key s))) (sym (take_all n filed (omega (arith, all))))
            ∙ none_marked (place_key s) (λ place d within marked. absurd (refuted place within marked))
          where
            refuted : (place : ℕ) → place < n → slice_index places.marks place ≡ mark_of (place_key s) → ⊥
            refuted place within marked =
                let found = list_any_at (λ (own : ℕ). own == mark_of (place_key s)) places.marks place 0 within (search (rules, marked)) in
                cc

        by : (late : Bool) → int_lt places.latest s.time ≡ late → has_live filed s.station s.time s.ra s.dec ≡ false
        by true is = none_as_late s.station s.time s.ra s.dec is
        by false is =
            without (sym (ap (λ (b : Bool). b && list_any (λ own. own == mark_of (place_key s)) places.marks) above)
            ∙ sym (ap (λ (late : Bool). has_mark places.marks (cond late 0 (mark_of (place_key s)))) is) ∙ none)

    pub unmarked : (line : Line) → has_mark places.marks (asked places.latest line) ≡ false → is_live_line (has_live filed) line ≡ false
    unmarked line none = unmarked_reading line.read none

  -- one that counts is among them
  pub some_counts : (key : PlaceKey) (place : ℕ) → place < n → ((d : Observation) → counts_at key (get_or filed place d) ≡ true) → list_any (counts_at key) filed ≡ true
  some_counts key place within one = any_one (counts_at key) filed place (omega (arith, within, was.within)) one

  module _ (newest : Observation) (room : 0 < places.room) where
    longer : length (filed ++ newest ∷ []) ≡ length filed + 1
    longer = omega (arith, length-append filed (newest ∷ []))

    last_is : (j : ℕ) (d : Observation) → j ≡ length filed → newest ≡ get_or (filed ++ newest ∷ []) j d
    last_is j d last = sym (get_or_push filed newest d j (sym last))

    up_to_more : (time : ℤ) → places.latest ≤ℤ time → time_of newest ≤ℤ time → All (λ o. time_of o ≤ℤ time) (filed ++ newest ∷ [])
    up_to_more time low own =
        All-append (λ (o : Observation). time_of o ≤ℤ time) filed (newest ∷ []) (λ k d below. let low_too = was.up_to k d below in omega (arith, ints)) only
      where
        only : All (λ o. time_of o ≤ℤ time) (newest ∷ [])
        only zero d below = own
        only (suc k) d below = absurd (omega (arith, below))

    module _ (time : ℤ) (low : places.latest ≤ℤ time) (own : time_of newest ≤ℤ time) where
      -- one more waits, and ascends where it is said only if it is later than all others
      pub filed_waits : (ascends : Bool) → (ascends ≡ true → (places.ascends ≡ true) × (places.latest <ℤ time_of newest))
          → IsIndexed (filed ++ newest ∷ []) (record places { room = places.room - 1; latest = time; ascends = ascends })
      filed_waits ascends later = record {
        within = omega (arith, was.within, longer);
        marks_are = was.marks_are ∙ ap (map mark_in) (sym (take-append-le n filed (newest ∷ []) was.within));
        in_order = λ told i j d from less below. elim (cases_eq j (length filed)) [
          | inl last ↦ (
              let inside : i < length filed = omega (arith, less, last) in
              let early = was.up_to i d inside in
              let after = (later told).1 in
              subst (λ (o : Observation). time_of (get_or (filed ++ newest ∷ []) i d) <ℤ time_of o) (last_is j d last)
              (subst (λ (o : Observation). time_of o <ℤ time_of newest) (sym (get_or_append_left filed (newest ∷ []) d i inside)) (omega (arith, ints))))
          | inr other ↦ (
              let inside : j < length filed = omega (arith, below, longer, other) in
              subst (λ (o : Observation). time_of (get_or (filed ++ newest ∷ []) i d) <ℤ time_of o) (sym (get_or_append_left filed (newest ∷ []) d j inside))
              (subst (λ (o : Observation). time_of o <ℤ time_of (get_or filed j d)) (sym (get_or_append_left filed (newest ∷ []) d i (omega (arith, less, inside)))) (was.in_order (later told).0 i j d from less inside)))
        ];
        up_to = up_to_more time low own;
        enough = omega (arith, was.enough, was.within, longer, room);
      }

      -- all that wait are put into the index, and the newest one
      pub filed_all : (marks : List ℕ) (spare : ℕ) → marks ≡ (places.marks ++ map mark_in (drop n filed)) ++ mark_in newest ∷ [] → spare + length (drop n filed) + 1 ≡ places.spare
          → IsIndexed (filed ++ newest ∷ []) (record { marks = marks; room = places.room - 1; spare = spare; latest = time; ascends = true })
      filed_all marks spare are spared = record {
        within = omega (arith, long, longer);
        marks_are = all ∙ ap (map mark_in) (sym (take_all (length marks) (filed ++ newest ∷ []) (omega (arith, long, longer))));
        in_order = λ told i j d from less below. absurd (omega (arith, from, less, below, long, longer));
        up_to = up_to_more time low own;
        enough = omega (arith, was.enough, was.within, long, longer, room, spared, length-drop n filed);
      }
        where
          all : marks ≡ map mark_in (filed ++ newest ∷ [])
          all =
              are ∙ ap (λ (ms : List ℕ). (ms ++ map mark_in (drop n filed)) ++ mark_in newest ∷ []) was.marks_are
              ∙ ap (λ (ms : List ℕ). ms ++ mark_in newest ∷ []) (sym (map-append mark_in (take n filed) (drop n filed)) ∙ ap (map mark_in) (take-append-drop n filed))
              ∙ sym (map-append mark_in filed (newest ∷ []))

          long : length marks ≡ length filed + 1
          long = ap (λ (ms : List ℕ). length ms) all ∙ length-map (filed ++ newest ∷ []) mark_in ∙ longer

  -- one is retracted
  module _ (place : ℕ) (o : Observation) (within : place < length filed) (at : (d : Observation) → get_or filed place d ≡ o) where
    abbrev pub retracted : Observation
    retracted = record o { live = false }

    abbrev pub kept : List Observation
    kept = set filed place retracted

    same_time : (j : ℕ) (d : Observation) → j < length filed → time_of (get_or kept j d) ≡ time_of (get_or filed j d)
    same_time j d below = elim (cases_eq j place) [
      | inl here ↦ ap (λ (n : ℕ). time_of (get_or kept n d)) here ∙ ap time_of (get_or-set_same filed place retracted d within) ∙ ap time_of (sym (at d)) ∙ ap (λ (n : ℕ). time_of (get_or filed n d)) (sym here)
      | inr other ↦ ap time_of (get_or-set_other filed place j retracted d other)
    ]

    marks_kept : (marks : List ℕ) → length marks ≡ n → marks ≡ map mark_in (take n kept) → IsIndexed kept (record places { marks = marks })
    marks_kept marks long are = record {
      within = omega (arith, long, was.within, length-set filed place retracted);
      marks_are = are ∙ ap (λ (m : ℕ). map mark_in (take m kept)) (sym long);
      in_order = λ told i j d from less below.
          let inside : j < length filed = omega (arith, below, length-set filed place retracted) in
          subst (λ (t : ℤ). t <ℤ time_of (get_or kept j d)) (sym (same_time i d (omega (arith, less, inside))))
          (subst (λ (t : ℤ). time_of (get_or filed i d) <ℤ t) (sym (same_time j d inside)) (was.in_order told i j d (omega (arith, from, long)) less inside));
      up_to = λ k d below.
          let inside : k < length filed = omega (arith, below, length-set filed place retracted) in
          subst (λ (t : ℤ). t ≤ℤ places.latest) (sym (same_time k d inside)) (was.up_to k d inside);
      enough = omega (arith, long, was.enough, length-set filed place retracted);
    }

    -- it is in the index, and its mark is taken
    pub retracted_indexed : place < n → IsIndexed kept (record places { marks = set places.marks place 0 })
    retracted_indexed inside =
        marks_kept (set places.marks place 0) (length-set places.marks place 0)
        (ap (λ (ms : List ℕ). set ms place 0) was.marks_are ∙ sym (mark_taken n place filed retracted refl inside))

    -- it waits
    pub retracted_waits : n ≤ place → IsIndexed kept places
    retracted_waits waits = marks_kept places.marks refl (was.marks_are ∙ ap (map mark_in) (sym (take-set-le n filed place retracted waits)))
