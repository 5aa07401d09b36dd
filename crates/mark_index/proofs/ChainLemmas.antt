-- Chains of entries, as one more comes, and as an entry's mark is taken.
use Rattle.std.proofs.Common.{◌≡◌, ◌≢◌, ◌==◌, Bool, true, false, rules, get_or, ℕ, ◌+◌, ◌-◌, ◌^◌, ◌<◌, ◌≤◌, List, [], ◌∷◌, ◌++◌, length, replicate, Option, Some, None, IfSome, IfNone, refl, ap, sym, subst, ◌∙◌, inl, inr, arith}
use Rattle.std.specs.Prelude.{slice_index, slice_set, set, is_some}
use Rattle.std.specs.List.{list_any}
use Rattle.std.proofs.lemmas.Bool.{cases_eq, cases_lt, eqb-true}
use Rattle.std.proofs.lemmas.List.{length-append, length-set, length-replicate, get_or_append_left, get_or_push, get_or-set_same, get_or-set_other, get_or-replicate, get_or_default}
use Rattle.std.proofs.lemmas.List.Folds.{list_any_none, list_any_at}
use Rattle.mark_index.specs.declared.table.Slot.{Slot}
use Rattle.mark_index.specs.Slots.{slot_of, slot_at, HasTag}
use Rattle.mark_index.specs.Marked.{IsLast, AreChained}

-- ---- no entries

-- a slot to which no mark came
abbrev pub no_mark : Slot
no_mark = record { head = 0; tags = 0 }

pub none_chained : (slots : ℕ) → 0 < slots → AreChained [] [] (replicate slots no_mark)
none_chained slots some = record {
  few = omega arith;
  as_many = refl;
  slots = omega (arith, length-replicate slots no_mark, some);
  before_is = λ i within marked. absurd (omega (arith, within));
  head_is = λ s within. subst (λ (slot : Slot). IsLast (length (replicate slots no_mark)) [] 0 s slot.head) (sym (get_or-replicate slots s no_mark no_mark (omega (arith, length-replicate slots no_mark, within)))) (record {
    within = omega arith;
    marked = λ above. absurd (omega (arith, above));
    of_slot = λ above. absurd (omega (arith, above));
    none_later = λ i low below. absurd (omega (arith, below));
  });
  tagged = λ i within marked. absurd (omega (arith, within));
}

-- ---- one more entry

module _ (marks : List ℕ) (mark : ℕ) where
  abbrev more : List ℕ
  more = marks ++ mark ∷ []

  old : (i : ℕ) → i < length marks → slice_index more i ≡ slice_index marks i
  old i within = get_or_append_left marks (mark ∷ []) 0 i within

  own : slice_index more (length marks) ≡ mark
  own = get_or_push marks mark 0 (length marks) refl

  longer : length more ≡ length marks + 1
  longer = omega (arith, length-append marks (mark ∷ []))

  module _ (slots : ℕ) where
    last_stays : (n s k : ℕ) → n ≤ length marks → IsLast slots marks n s k → IsLast slots more n s k
    last_stays n s k among was = record {
      within = was.within;
      marked = λ above. subst (λ (m : ℕ). 0 < m) (sym (old (k - 1) (omega (arith, above, was.within, among)))) (was.marked above);
      of_slot = λ above. ap (slot_of slots) (old (k - 1) (omega (arith, above, was.within, among))) ∙ was.of_slot above;
      none_later = λ i low below some is.
          let at = old i (omega (arith, below, among)) in
          was.none_later i low below (subst (λ (m : ℕ). 0 < m) at some) (ap (slot_of slots) (sym at) ∙ is);
    }

    last_of_other : (s k : ℕ) → (0 < mark → slot_of slots mark ≢ s) → IsLast slots marks (length marks) s k → IsLast slots more (length marks + 1) s k
    last_of_other s k differs was = let stays = last_stays (length marks) s k (omega arith) was in record {
      within = omega (arith, was.within);
      marked = stays.marked;
      of_slot = stays.of_slot;
      none_later = λ i low below some is. elim (cases_eq i (length marks)) [
        | inl same ↦ (let at : slice_index more i ≡ mark = ap (slice_index more) same ∙ own in differs (subst (λ (m : ℕ). 0 < m) at some) (ap (slot_of slots) (sym at) ∙ is))
        | inr other ↦ stays.none_later i low (omega (arith, below, other)) some is
      ];
    }

    last_is_own : 0 < mark → IsLast slots more (length marks + 1) (slot_of slots mark) (length marks + 1)
    last_is_own some = record {
      within = omega arith;
      marked = λ above. subst (λ (m : ℕ). 0 < m) (sym newest) some;
      of_slot = λ above. ap (slot_of slots) newest;
      none_later = λ i low below. absurd (omega (arith, low, below));
    }
      where
        one_less : (n : ℕ) → n + 1 - 1 ≡ n
        one_less n = omega arith

        newest : slice_index more (length marks + 1 - 1) ≡ mark
        newest = ap (slice_index more) (one_less (length marks)) ∙ own

-- an entry has the number of the one before it in its slot
abbrev HasBefore : ℕ → List ℕ → List ℕ → ℕ → Type 0
HasBefore slots marks befores i = IsLast slots marks i (slot_of slots (slice_index marks i)) (slice_index befores i)

module _ (marks befores : List ℕ) (as_many : length befores ≡ length marks) (mark before slots : ℕ) where
  -- one that was there still has it
  earlier : (i : ℕ) → i < length marks → HasBefore slots marks befores i → HasBefore slots (more marks mark) (more befores before) i
  earlier i low was =
      subst (λ (k : ℕ). IsLast slots (more marks mark) i (slot_of slots (slice_index (more marks mark) i)) k) (sym (old befores before i (omega (arith, low, as_many))))
      (subst (λ (m : ℕ). IsLast slots (more marks mark) i (slot_of slots m) (slice_index befores i)) (sym (old marks mark i low))
      (last_stays marks mark slots i (slot_of slots (slice_index marks i)) (slice_index befores i) (omega (arith, low)) was))

module _ (marks befores : List ℕ) (table : List Slot) (was : AreChained marks befores table) where
  -- one that has no mark
  pub unmarked_chained : length marks + 1 < 2 ^ 32 → AreChained (marks ++ 0 ∷ []) (befores ++ 0 ∷ []) table
  unmarked_chained few = record {
    few = omega (arith, longer marks 0, few);
    as_many = omega (arith, longer marks 0, longer befores 0, was.as_many);
    slots = was.slots;
    before_is = λ i within some.
        let low = lower i within some in
        earlier marks befores was.as_many 0 0 (length table) i low (was.before_is i low (subst (λ (m : ℕ). 0 < m) (old marks 0 i low) some));
    head_is = λ s within. subst (λ (n : ℕ). IsLast (length table) (more marks 0) n s (slot_at table s).head) (sym (longer marks 0))
        (last_of_other marks 0 (length table) s (slot_at table s).head (λ none. absurd (omega (arith, none))) (was.head_is s within));
    tagged = λ i within some.
        let low = lower i within some in
        let at = old marks 0 i low in
        subst (λ (m : ℕ). HasTag (slot_at table (slot_of (length table) m)).tags m) (sym at)
        (was.tagged i low (subst (λ (m : ℕ). 0 < m) at some));
  }
    where
      lower : (i : ℕ) → i < length (more marks 0) → 0 < slice_index (more marks 0) i → i < length marks
      lower i within some = elim (cases_eq i (length marks)) [
        | inl same ↦ (let none : slice_index (more marks 0) i ≡ 0 = ap (slice_index (more marks 0)) same ∙ own marks 0 in absurd (omega (arith, some, none)))
        | inr other ↦ omega (arith, within, other, longer marks 0)
      ]

module _ (marks befores : List ℕ) (table : List Slot) (was : AreChained marks befores table) (mark slot tags : ℕ) (marked : 0 < mark) where
  abbrev head : ℕ
  head = (slot_at table slot).head

  -- the slot after a mark came to it, with these tags
  abbrev joined : Slot
  joined = record { head = length marks + 1; tags = tags }

  pub one_chained : length marks + 1 < 2 ^ 32 → slot ≡ slot_of (length table) mark → slot < length table
      → HasTag tags mark → ((other : ℕ) → HasTag (slot_at table slot).tags other → HasTag tags other)
      → AreChained (marks ++ mark ∷ []) (befores ++ (slot_at table slot).head ∷ []) (set table slot (record { head = length marks + 1; tags = tags }))
  one_chained few slot_is slot_within own_tag other_tags = record {
    few = omega (arith, longer marks mark, few);
    as_many = omega (arith, longer marks mark, longer befores head, was.as_many);
    slots = omega (arith, same_slots, was.slots);
    before_is = λ i within some. subst (λ (slots : ℕ). HasBefore slots (more marks mark) (more befores head) i) (sym same_slots) (before_is i within some);
    head_is = λ s within. subst (λ (slots : ℕ). IsLast slots (more marks mark) (length (more marks mark)) s (slot_at (set table slot joined) s).head) (sym same_slots)
        (subst (λ (n : ℕ). IsLast (length table) (more marks mark) n s (slot_at (set table slot joined) s).head) (sym (longer marks mark)) (head_is s (omega (arith, within, same_slots))));
    tagged = λ i within some. subst (λ (slots : ℕ). HasTag (slot_at (set table slot joined) (slot_of slots (slice_index (more marks mark) i))).tags (slice_index (more marks mark) i)) (sym same_slots) (tagged i within some);
  }
    where
      same_slots : length (set table slot joined) ≡ length table
      same_slots = length-set table slot joined

      at_own : slot_at (set table slot joined) slot ≡ joined
      at_own = get_or-set_same table slot joined _ slot_within

      at_other : (s : ℕ) → slot ≢ s → slot_at (set table slot joined) s ≡ slot_at table s
      at_other s other = get_or-set_other table slot s joined _ (λ is. other (sym is))

      before_is : (i : ℕ) → i < length (more marks mark) → 0 < slice_index (more marks mark) i → HasBefore (length table) (more marks mark) (more befores head) i
      before_is i within some = elim (cases_eq i (length marks)) [
        | inl same ↦ subst (λ (n : ℕ). HasBefore (length table) (more marks mark) (more befores head) n) (sym same) newest
        | inr other ↦ (let low : i < length marks = omega (arith, within, other, longer marks mark) in
            earlier marks befores was.as_many mark head (length table) i low (was.before_is i low (subst (λ (m : ℕ). 0 < m) (old marks mark i low) some)))
      ]
        where
          newest : HasBefore (length table) (more marks mark) (more befores head) (length marks)
          newest =
              subst (λ (k : ℕ). IsLast (length table) (more marks mark) (length marks) (slot_of (length table) (slice_index (more marks mark) (length marks))) k)
              (sym (ap (slice_index (more befores head)) (sym was.as_many) ∙ own befores head))
              (subst (λ (s : ℕ). IsLast (length table) (more marks mark) (length marks) s head) (slot_is ∙ ap (slot_of (length table)) (sym (own marks mark)))
              (last_stays marks mark (length table) (length marks) slot head (omega arith) (was.head_is slot slot_within)))

      head_is : (s : ℕ) → s < length table → IsLast (length table) (more marks mark) (length marks + 1) s (slot_at (set table slot joined) s).head
      head_is s within = elim (cases_eq slot s) [
        | inl same ↦ subst (λ (t : ℕ). IsLast (length table) (more marks mark) (length marks + 1) t (slot_at (set table slot joined) t).head) same
            (subst (λ (found : Slot). IsLast (length table) (more marks mark) (length marks + 1) slot found.head) (sym at_own)
            (subst (λ (t : ℕ). IsLast (length table) (more marks mark) (length marks + 1) t (length marks + 1)) (sym slot_is) (last_is_own marks mark (length table) marked)))
        | inr other ↦ subst (λ (found : Slot). IsLast (length table) (more marks mark) (length marks + 1) s found.head) (sym (at_other s other))
            (last_of_other marks mark (length table) s (slot_at table s).head (λ some is. other (slot_is ∙ is)) (was.head_is s within))
      ]

      -- a tag that was there still is
      tag_stays : (s wanted : ℕ) → HasTag (slot_at table s).tags wanted → HasTag (slot_at (set table slot joined) s).tags wanted
      tag_stays s wanted was_there = elim (cases_eq slot s) [
        | inl same ↦ subst (λ (t : ℕ). HasTag (slot_at (set table slot joined) t).tags wanted) same
            (subst (λ (found : Slot). HasTag found.tags wanted) (sym at_own)
            (other_tags wanted (subst (λ (t : ℕ). HasTag (slot_at table t).tags wanted) (sym same) was_there)))
        | inr other ↦ subst (λ (found : Slot). HasTag found.tags wanted) (sym (at_other s other)) was_there
      ]

      tagged : (i : ℕ) → i < length (more marks mark) → 0 < slice_index (more marks mark) i → HasTag (slot_at (set table slot joined) (slot_of (length table) (slice_index (more marks mark) i))).tags (slice_index (more marks mark) i)
      tagged i within some = elim (cases_eq i (length marks)) [
        | inl same ↦ subst (λ (m : ℕ). HasTag (slot_at (set table slot joined) (slot_of (length table) m)).tags m) (sym (ap (slice_index (more marks mark)) same ∙ own marks mark))
            (subst (λ (s : ℕ). HasTag (slot_at (set table slot joined) s).tags mark) slot_is
            (subst (λ (found : Slot). HasTag found.tags mark) (sym at_own) own_tag))
        | inr other ↦ (let low : i < length marks = omega (arith, within, other, longer marks mark) in
            subst (λ (m : ℕ). HasTag (slot_at (set table slot joined) (slot_of (length table) m)).tags m) (sym (old marks mark i low))
            (tag_stays (slot_of (length table) (slice_index marks i)) (slice_index marks i) (was.tagged i low (subst (λ (m : ℕ). 0 < m) (old marks mark i low) some))))
      ]

-- ---- an entry's mark is taken

module _ (marks : List ℕ) (r : ℕ) (within : r < length marks) where
  abbrev taken : List ℕ
  taken = slice_set marks r 0

  as_long : length taken ≡ length marks
  as_long = length-set marks r 0

  kept : (i : ℕ) → i ≢ r → slice_index taken i ≡ slice_index marks i
  kept i other = get_or-set_other marks r i 0 0 other

  -- an entry that has a mark still is another one
  is_other : (i : ℕ) → 0 < slice_index taken i → i ≢ r
  is_other i some same =
      let none : slice_index taken i ≡ 0 = ap (slice_index taken) same ∙ get_or-set_same marks r 0 0 within in
      omega (arith, some, none)

  -- and has the mark that it had
  still : (i : ℕ) → 0 < slice_index taken i → slice_index taken i ≡ slice_index marks i
  still i some = kept i (is_other i some)

  still_some : (i : ℕ) → 0 < slice_index taken i → 0 < slice_index marks i
  still_some i some = subst (λ (m : ℕ). 0 < m) (still i some) some

  module _ (slots : ℕ) where
    -- where another entry was the last it still is
    others_stay : (n s k : ℕ) → k ≢ r + 1 → IsLast slots marks n s k → IsLast slots taken n s k
    others_stay n s k other was = record {
      within = was.within;
      marked = λ above. subst (λ (m : ℕ). 0 < m) (sym (kept (k - 1) (λ same. other (omega (arith, above, same))))) (was.marked above);
      of_slot = λ above. ap (slot_of slots) (kept (k - 1) (λ same. other (omega (arith, above, same)))) ∙ was.of_slot above;
      none_later = λ i low below some is. was.none_later i low below (still_some i some) (ap (slot_of slots) (sym (still i some)) ∙ is);
    }

    -- where it was the last, the one before it takes over
    takes_over : (n s b : ℕ) → IsLast slots marks n s (r + 1) → IsLast slots marks r s b → IsLast slots taken n s b
    takes_over n s b newest before = record {
      within = omega (arith, newest.within, before.within);
      marked = λ above. subst (λ (m : ℕ). 0 < m) (sym (kept (b - 1) (λ same. omega (arith, above, same, before.within)))) (before.marked above);
      of_slot = λ above. ap (slot_of slots) (kept (b - 1) (λ same. omega (arith, above, same, before.within))) ∙ before.of_slot above;
      none_later = λ i low below some is. elim (cases_lt i r) [
        | inl early ↦ before.none_later i low early (still_some i some) (ap (slot_of slots) (sym (still i some)) ∙ is)
        | inr late ↦ newest.none_later i (later i late (is_other i some)) below (still_some i some) (ap (slot_of slots) (sym (still i some)) ∙ is)
      ];
    }
      where
        later : (i : ℕ) → r ≤ i → i ≢ r → r + 1 ≤ i
        later i late other = omega (arith, late, other)

-- a later entry p of the slot of entry r leads to number k
pub record LeadsOn (marks befores : List ℕ) (slots r p k : ℕ) : Type 0 where
  pub within : p < length marks
  pub marked : 0 < slice_index marks p
  pub of_slot : slot_of slots (slice_index marks p) ≡ slot_of slots (slice_index marks r)
  pub before : slice_index befores p ≡ k
  pub earlier : k ≤ p

module _ (marks befores : List ℕ) (table : List Slot) (was : AreChained marks befores table) (r : ℕ) (within : r < length marks) (some : 0 < slice_index marks r) where
  abbrev slot : ℕ
  slot = slot_of (length table) (slice_index marks r)

  abbrev before : ℕ
  before = slice_index befores r

  -- what is left to show where a number before an entry, or that of a slot, is another one
  rechained : (befores' : List ℕ) (table' : List Slot) → length befores' ≡ length befores → length table' ≡ length table
      → ((i : ℕ) → i < length marks → i ≢ r → 0 < slice_index marks i → IsLast (length table) (taken marks r within) i (slot_of (length table) (slice_index marks i)) (slice_index befores' i))
      → ((s : ℕ) → s < length table → IsLast (length table) (taken marks r within) (length marks) s (slot_at table' s).head)
      → ((s : ℕ) → (slot_at table' s).tags ≡ (slot_at table s).tags)
      → AreChained (taken marks r within) befores' table'
  rechained befores' table' befores_long table_long befores_are heads_are tags_are = record {
    few = omega (arith, as_long marks r within, was.few);
    as_many = omega (arith, as_long marks r within, befores_long, was.as_many);
    slots = omega (arith, table_long, was.slots);
    before_is = λ i below marked.
        subst (λ (slots : ℕ). IsLast slots (taken marks r within) i (slot_of slots (slice_index (taken marks r within) i)) (slice_index befores' i)) (sym table_long)
        (subst (λ (m : ℕ). IsLast (length table) (taken marks r within) i (slot_of (length table) m) (slice_index befores' i)) (sym (still marks r within i marked))
        (befores_are i (omega (arith, below, as_long marks r within)) (is_other marks r within i marked) (still_some marks r within i marked)));
    head_is = λ s below.
        subst (λ (slots : ℕ). IsLast slots (taken marks r within) (length (taken marks r within)) s (slot_at table' s).head) (sym table_long)
        (subst (λ (n : ℕ). IsLast (length table) (taken marks r within) n s (slot_at table' s).head) (sym (as_long marks r within))
        (heads_are s (omega (arith, below, table_long))));
    tagged = λ i below marked.
        subst (λ (slots : ℕ). HasTag (slot_at table' (slot_of slots (slice_index (taken marks r within) i))).tags (slice_index (taken marks r within) i)) (sym table_long)
        (subst (λ (tags : ℕ). HasTag tags (slice_index (taken marks r within) i)) (sym (tags_are (slot_of (length table) (slice_index (taken marks r within) i))))
        (subst (λ (m : ℕ). HasTag (slot_at table (slot_of (length table) m)).tags m) (sym (still marks r within i marked))
        (was.tagged i (omega (arith, below, as_long marks r within)) (still_some marks r within i marked))));
  }

  -- what leads to the entry is of its slot
  same_slot : (n s k : ℕ) → IsLast (length table) marks n s k → k ≡ r + 1 → slot ≡ s
  same_slot n s k last is =
      let here : k - 1 ≡ r = omega (arith, is) in
      sym (ap (λ (i : ℕ). slot_of (length table) (slice_index marks i)) here) ∙ last.of_slot (omega (arith, is))

  -- the entry is the newest of its slot
  pub unlinked_head : slot < length table → (slot_at table slot).head ≡ r + 1 → AreChained (slice_set marks r 0) befores (set table slot (record { head = before; tags = (slot_at table slot).tags }))
  unlinked_head slot_within newest = rechained befores shorter refl (length-set table slot cut) befores_are heads_are tags_are
    where
      cut : Slot
      cut = record { head = before; tags = (slot_at table slot).tags }

      shorter : List Slot
      shorter = set table slot cut

      at_own : slot_at shorter slot ≡ cut
      at_own = get_or-set_same table slot cut _ slot_within

      at_other : (s : ℕ) → slot ≢ s → slot_at shorter s ≡ slot_at table s
      at_other s other = get_or-set_other table slot s cut _ (λ is. other (sym is))

      tags_are : (s : ℕ) → (slot_at shorter s).tags ≡ (slot_at table s).tags
      tags_are s = elim (cases_eq slot s) [
        | inl same ↦ subst (λ (t : ℕ). (slot_at shorter t).tags ≡ (slot_at table t).tags) same (ap (λ (found : Slot). found.tags) at_own)
        | inr other ↦ ap (λ (found : Slot). found.tags) (at_other s other)
      ]

      head : IsLast (length table) marks (length marks) slot (r + 1)
      head = subst (λ (k : ℕ). IsLast (length table) marks (length marks) slot k) newest (was.head_is slot slot_within)

      befores_are : (i : ℕ) → i < length marks → i ≢ r → 0 < slice_index marks i → IsLast (length table) (taken marks r within) i (slot_of (length table) (slice_index marks i)) (slice_index befores i)
      befores_are i below other marked =
          let last = was.before_is i below marked in
          others_stay marks r within (length table) i _ _
          (λ is. head.none_later i (omega (arith, is, last.within)) below marked (sym (same_slot i _ _ last is)))
          last

      heads_are : (s : ℕ) → s < length table → IsLast (length table) (taken marks r within) (length marks) s (slot_at shorter s).head
      heads_are s below = elim (cases_eq slot s) [
        | inl same ↦ subst (λ (t : ℕ). IsLast (length table) (taken marks r within) (length marks) t (slot_at shorter t).head) same
            (subst (λ (found : Slot). IsLast (length table) (taken marks r within) (length marks) slot found.head) (sym at_own)
            (takes_over marks r within (length table) (length marks) slot before head (was.before_is r within some)))
        | inr other ↦ subst (λ (found : Slot). IsLast (length table) (taken marks r within) (length marks) s found.head) (sym (at_other s other))
            (others_stay marks r within (length table) (length marks) s _ (λ is. other (same_slot _ s _ (was.head_is s below) is)) (was.head_is s below))
      ]

  -- a later entry leads to it
  pub unlinked_before : (p : ℕ) → LeadsOn marks befores (length table) r p (r + 1) → AreChained (slice_set marks r 0) (slice_set befores p before) table
  unlinked_before p on = rechained (slice_set befores p before) table (length-set befores p before) refl befores_are heads_are (λ s. refl)
    where
      own : IsLast (length table) marks p slot (r + 1)
      own =
          subst (λ (s : ℕ). IsLast (length table) marks p s (r + 1)) on.of_slot
          (subst (λ (k : ℕ). IsLast (length table) marks p (slot_of (length table) (slice_index marks p)) k) on.before (was.before_is p on.within on.marked))

      befores_are : (i : ℕ) → i < length marks → i ≢ r → 0 < slice_index marks i → IsLast (length table) (taken marks r within) i (slot_of (length table) (slice_index marks i)) (slice_index (slice_set befores p before) i)
      befores_are i below other marked = elim (cases_eq p i) [
        | inl same ↦ subst (λ (j : ℕ). IsLast (length table) (taken marks r within) j (slot_of (length table) (slice_index marks j)) (slice_index (slice_set befores p before) j)) same
            (subst (λ (k : ℕ). IsLast (length table) (taken marks r within) p (slot_of (length table) (slice_index marks p)) k) (sym (get_or-set_same befores p before 0 (omega (arith, on.within, was.as_many))))
            (subst (λ (s : ℕ). IsLast (length table) (taken marks r within) p s before) (sym on.of_slot)
            (takes_over marks r within (length table) p slot before own (was.before_is r within some))))
        | inr apart ↦ subst (λ (k : ℕ). IsLast (length table) (taken marks r within) i (slot_of (length table) (slice_index marks i)) k) (sym (get_or-set_other befores p i before 0 (λ is. apart (sym is))))
            (others_stay marks r within (length table) i _ _ (not_led i below marked apart) (was.before_is i below marked))
      ]
        where
          not_led : (i : ℕ) → i < length marks → 0 < slice_index marks i → p ≢ i → slice_index befores i ≢ r + 1
          not_led i below marked apart is =
              let last = was.before_is i below marked in
              let same = same_slot i _ _ last is in
              elim (cases_lt i p) [
                | inl early ↦ own.none_later i (omega (arith, is, last.within)) early marked (sym same)
                | inr late ↦ last.none_later p (omega (arith, is, own.within)) (omega (arith, late, apart)) on.marked (on.of_slot ∙ same)
              ]

      heads_are : (s : ℕ) → s < length table → IsLast (length table) (taken marks r within) (length marks) s (slot_at table s).head
      heads_are s below =
          let last = was.head_is s below in
          others_stay marks r within (length table) (length marks) s _
          (λ is. last.none_later p (omega (arith, is, own.within)) on.within on.marked (on.of_slot ∙ same_slot _ s _ last is))
          last

-- ---- a walk to an entry along its chain

-- number k is of the slot of entry r and not before it; after the entry `after` it comes next, or it is the newest
pub record IsWalked (marks befores : List ℕ) (table : List Slot) (r k : ℕ) (after : Option ℕ) : Type 0 where
  pub within : k ≤ length marks
  pub late : r < k
  pub marked : 0 < slice_index marks (k - 1)
  pub of_slot : slot_of (length table) (slice_index marks (k - 1)) ≡ slot_of (length table) (slice_index marks r)
  pub newest : IfNone after ((slot_at table (slot_of (length table) (slice_index marks r))).head ≡ k)
  pub next : IfSome after (λ p. LeadsOn marks befores (length table) r p k)

-- ---- a search along a chain

-- from number k on no entry has the mark and passes the test, and k is of the mark's slot
pub record IsSought (slots : ℕ) (marks : List ℕ) (mark k : ℕ) (Fails : ℕ → Type 0) : Type 0 where
  pub within : k ≤ length marks
  pub marked : 0 < k → 0 < slice_index marks (k - 1)
  pub of_slot : 0 < k → slot_of slots (slice_index marks (k - 1)) ≡ slot_of slots mark
  pub none : (i : ℕ) → k ≤ i → i < length marks → slice_index marks i ≡ mark → Fails i

-- ---- whether an entry has a mark

-- none has it where each that has is refused
pub none_has : (mark : ℕ) (marks : List ℕ) → ((i : ℕ) → i < length marks → slice_index marks i ≡ mark → ⊥) → false ≡ list_any (λ own. own == mark) marks
none_has mark marks none = sym (list_any_none (λ (own : ℕ). own == mark) marks (λ k d below. by k d below (get_or marks k d == mark) refl))
  where
    by : (k d : ℕ) → k < length marks → (b : Bool) → (get_or marks k d == mark) ≡ b → (get_or marks k d == mark) ≡ false
    by k d below false is = is
    by k d below true is = absurd (none k below (get_or_default marks k 0 d below ∙ eqb-true (get_or marks k d) mark is))

-- what a search for it tells
pub told : (r : Option ℕ) (mark : ℕ) (marks : List ℕ) (N : Type 0) → IfSome r (λ i. i < length marks) → IfSome r (λ i. slice_index marks i ≡ mark) → IfNone r N
    → (N → (i : ℕ) → i < length marks → slice_index marks i ≡ mark → ⊥) → is_some r ≡ list_any (λ own. own == mark) marks
told None mark marks N within marked none refused = none_has mark marks (refused none)
told (Some i) mark marks N within marked none refused = sym (list_any_at (λ (own : ℕ). own == mark) marks i 0 within (search (rules, marked)))

-- an entry's mark has its tag in its slot
pub has_own_tag : (marks befores : List ℕ) (table : List Slot) (slots s mark : ℕ) (at : Slot) → AreChained marks befores table → slots ≡ length table → s ≡ slot_of slots mark → at ≡ slot_at table s
    → 0 < mark → (i : ℕ) → i < length marks → slice_index marks i ≡ mark → HasTag at.tags mark
has_own_tag marks befores table slots s mark at was many of_mark found some i within marked =
    let own : HasTag (slot_at table (slot_of (length table) mark)).tags mark =
    subst (λ (m : ℕ). HasTag (slot_at table (slot_of (length table) m)).tags m) marked (was.tagged i within (subst (λ (m : ℕ). 0 < m) (sym marked) some)) in
    subst (λ (t : Slot). HasTag t.tags mark) (sym (found ∙ ap (slot_at table) (of_mark ∙ ap (λ (n : ℕ). slot_of n mark) many))) own
