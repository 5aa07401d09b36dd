-- Groups that get numbers, and the keys of groups that lines bring one after another.
use Rattle.std.proofs.Common.{◌≡◌, ℕ, zero, suc, slice_get, ◌+◌, ◌<◌, Bool, true, false, cond, List, [], ◌∷◌, ◌++◌, length, get_or, set, map, drop, Option, Some, None, Result, Ok, Err, refl, ap, sym, subst, ◌∙◌, inl, inr, true≢false, arith}
use Rattle.std.specs.Prelude.{◌==◌, nat_lt, is_none, position}
use Rattle.std.specs.Result.{result_ok}
use Rattle.std.specs.List.{list_any, position_or_len}
use Rattle.std.proofs.lemmas.Bool.{cases_eq, cases_lt, eq-eqb}
use Rattle.std.proofs.lemmas.Bool.Decides.{nat_tests}
use Rattle.std.proofs.lemmas.List.{length-append, length-set, map-append, get_or-set_same, get_or-set_other}
use Rattle.std.proofs.lemmas.List.Elements.{filter-append, filter_map-append}
use Rattle.std.proofs.lemmas.List.Folds.{position_or_len_push}
use Rattle.std.proofs.lemmas.List.Sums.{fold-append}
use Rattle.std.proofs.lemmas.Option.{get_or_from_slice_get}
use Rattle.indexmap.specs.IndexSet.{insert_key, insert_all}
use Rattle.obs_record.specs.declared.line.Line.{Line}
use Rattle.obs_record.specs.declared.sighting.Sighting.{Sighting}
use Rattle.obs_record.specs.declared.rule.RuleCode.{RuleCode}
use Rattle.act_model.specs.BatchRules.{same_group, passed_in}
use Rattle.batch_rules.specs.declared.keys.GroupKey.{GroupKey}
use Rattle.batch_rules.specs.declared.groups.Summary.{Summary}
use Rattle.batch_rules.specs.declared.points.Point.{Point}
use Rattle.batch_rules.specs.KeyTests.{same_key}
use Rattle.batch_rules.specs.Groups.{group_key, fault_by, accepted_by}
use Rattle.batch_rules.specs.Points.{KeptGroups, place_of, point_of}
use Rattle.batch_rules.specs.Numbers.{keys_after}
use Rattle.batch_rules.specs.Numbered.{KeptNumbers, IsNumbered, IsNext, points_in}
use Rattle.batch_rules.proofs.Any.{any_placed, placed_any, longest, none_placed}
use Rattle.batch_rules.proofs.KeyLemmas.{same_keys}
use Rattle.batch_rules.proofs.PointLemmas.{AreWithin, one_place, place_of_one}

-- ---- what the place of a key tells

module _ (p : GroupKey → Bool) where
  placed_some : (keys : List GroupKey) (n : ℕ) → position p keys ≡ Some n → (n ≡ position_or_len p keys) × (list_any p keys ≡ true)
  placed_some keys n some = by (nat_lt (position_or_len p keys) (length keys)) refl some
    where
      by : (b : Bool) → nat_lt (position_or_len p keys) (length keys) ≡ b → cond b (Some (position_or_len p keys)) None ≡ Some n → (n ≡ position_or_len p keys) × (list_any p keys ≡ true)
      by true is some = (cc, any_placed p keys (grind (arith, nat_tests)))
      by false is some = absurd (cc)

  placed_none : (keys : List GroupKey) → position p keys ≡ None → list_any p keys ≡ false
  placed_none keys none = by (list_any p keys) refl
    where
      no_place : (b : Bool) → nat_lt (position_or_len p keys) (length keys) ≡ b → cond b (Some (position_or_len p keys)) None ≡ None → b ≡ false
      no_place true is none = absurd (cc)
      no_place false is none = refl

      by : (b : Bool) → list_any p keys ≡ b → b ≡ false
      by true found =
          let low : position_or_len p keys < length keys = placed_any p keys found in
          let told : nat_lt (position_or_len p keys) (length keys) ≡ true = grind (arith, nat_tests) in
          absurd (true≢false (sym told ∙ no_place (nat_lt (position_or_len p keys) (length keys)) refl none))
      by false found = refl

  -- a key that doesn't pass changes no place
  place_stays : (keys : List GroupKey) (key : GroupKey) → p key ≡ false → position p (keys ++ key ∷ []) ≡ position p keys
  place_stays keys key fails = elim (cases_lt (position_or_len p keys) (length keys)) [
    | inl low ↦ (
        let apart : (position_or_len p keys == length keys) ≡ false = grind (arith, nat_tests) in
        let place : position_or_len p (keys ++ key ∷ []) ≡ position_or_len p keys = position_or_len_push p keys key ∙ ap (λ (b : Bool). cond b (length keys + cond (p key) 0 1) (position_or_len p keys)) apart in
        let more : nat_lt (position_or_len p (keys ++ key ∷ [])) (length (keys ++ key ∷ [])) ≡ true = grind (arith, nat_tests, length-append keys (key ∷ [])) in
        let was : nat_lt (position_or_len p keys) (length keys) ≡ true = grind (arith, nat_tests) in
        ap (λ (b : Bool). cond b (Some (position_or_len p (keys ++ key ∷ []))) None) more ∙ ap (λ (n : ℕ). Some n) place
        ∙ sym (ap (λ (b : Bool). cond b (Some (position_or_len p keys)) None) was))
    | inr high ↦ (
        let at_end : position_or_len p keys ≡ length keys = omega (arith, high, longest p keys) in
        let place : position_or_len p (keys ++ key ∷ []) ≡ length keys + 1 =
        position_or_len_push p keys key ∙ ap (λ (b : Bool). cond b (length keys + cond (p key) 0 1) (position_or_len p keys)) (eq-eqb (position_or_len p keys) (length keys) at_end)
        ∙ ap (λ (b : Bool). length keys + cond b 0 1) fails in
        let more : nat_lt (position_or_len p (keys ++ key ∷ [])) (length (keys ++ key ∷ [])) ≡ false = grind (arith, nat_tests, length-append keys (key ∷ [])) in
        let was : nat_lt (position_or_len p keys) (length keys) ≡ false = grind (arith, nat_tests) in
        ap (λ (b : Bool). cond b (Some (position_or_len p (keys ++ key ∷ []))) None) more ∙ sym (ap (λ (b : Bool). cond b (Some (position_or_len p keys)) None) was))
  ]

  -- the first that passes goes last
  place_last : (keys : List GroupKey) (key : GroupKey) → list_any p keys ≡ false → p key ≡ true → position p (keys ++ key ∷ []) ≡ Some (length keys)
  place_last keys key none passes =
      let at_end : position_or_len p keys ≡ length keys = none_placed p keys none in
      let place : position_or_len p (keys ++ key ∷ []) ≡ length keys + 0 =
      position_or_len_push p keys key ∙ ap (λ (b : Bool). cond b (length keys + cond (p key) 0 1) (position_or_len p keys)) (eq-eqb (position_or_len p keys) (length keys) at_end)
      ∙ ap (λ (b : Bool). length keys + cond b 0 1) passes in
      let zero_more : length keys + 0 ≡ length keys = omega arith in
      let more : nat_lt (position_or_len p (keys ++ key ∷ [])) (length (keys ++ key ∷ [])) ≡ true = grind (arith, nat_tests, length-append keys (key ∷ [])) in
      ap (λ (b : Bool). cond b (Some (position_or_len p (keys ++ key ∷ []))) None) more ∙ ap (λ (n : ℕ). Some n) (place ∙ zero_more)

-- ---- one more group gets a number

module _ (keys firsts : List GroupKey) (was : KeptNumbers) (numbered : IsNumbered keys firsts was) (s : Sighting) (there : place_of keys s < length keys) where
  -- it has one
  pub known_number : (n : ℕ) → get_or was.numbers (place_of keys s) None ≡ Some n → n ≡ position_or_len (same_key (group_key s)) firsts
  known_number n is = (placed_some (same_key (group_key s)) firsts n (sym (numbered.at s there) ∙ is)).0

  pub still_numbered : (n : ℕ) → get_or was.numbers (place_of keys s) None ≡ Some n → IsNumbered keys (insert_key same_key firsts (group_key s)) was
  still_numbered n is =
      subst (λ (b : Bool). IsNumbered keys (cond b firsts (firsts ++ group_key s ∷ [])) was) (sym (placed_some (same_key (group_key s)) firsts n (sym (numbered.at s there) ∙ is)).1) numbered

  -- it had none
  module _ (none : get_or was.numbers (place_of keys s) None ≡ None) where
    new_one : list_any (same_key (group_key s)) firsts ≡ false
    new_one = placed_none (same_key (group_key s)) firsts (sym (numbered.at s there) ∙ none)

    pub new_number : was.count ≡ position_or_len (same_key (group_key s)) firsts
    new_number = numbered.count ∙ sym (none_placed (same_key (group_key s)) firsts new_one)

    pub newly_numbered : (now : KeptNumbers) → now.numbers ≡ set was.numbers (place_of keys s) (Some was.count) → now.count ≡ was.count + 1 → IsNumbered keys (insert_key same_key firsts (group_key s)) now
    newly_numbered now numbers count =
        subst (λ (b : Bool). IsNumbered keys (cond b firsts (firsts ++ group_key s ∷ [])) now) (sym new_one) (record {
          many = ap (λ (os : List (Option ℕ)). length os) numbers ∙ length-set was.numbers (place_of keys s) (Some was.count) ∙ numbered.many;
          count = omega (arith, count, numbered.count, length-append firsts (group_key s ∷ []));
          at = λ x within. ap (λ (os : List (Option ℕ)). get_or os (place_of keys x) None) numbers ∙ at x within;
        })
      where
        at : (x : Sighting) → place_of keys x < length keys → get_or (set was.numbers (place_of keys s) (Some was.count)) (place_of keys x) None ≡ position (same_key (group_key x)) (firsts ++ group_key s ∷ [])
        at x within = elim (cases_eq (place_of keys x) (place_of keys s)) [
          | inl same ↦ (
              let one : same_group x s ≡ true = one_place keys s x within (sym same) in
              let passes : same_key (group_key x) (group_key s) ≡ true = same_keys x s ∙ one in
              let none_yet : list_any (same_key (group_key x)) firsts ≡ false = placed_none (same_key (group_key x)) firsts (sym (numbered.at x within) ∙ ap (λ (n : ℕ). get_or was.numbers n None) same ∙ none) in
              ap (λ (n : ℕ). get_or (set was.numbers (place_of keys s) (Some was.count)) n None) same
              ∙ get_or-set_same was.numbers (place_of keys s) (Some was.count) None (omega (arith, there, numbered.many))
              ∙ ap (λ (n : ℕ). Some n) numbered.count ∙ sym (place_last (same_key (group_key x)) firsts (group_key s) none_yet passes))
          | inr differs ↦ (
              get_or-set_other was.numbers (place_of keys s) (place_of keys x) (Some was.count) None differs ∙ numbered.at x within
              ∙ sym (place_stays (same_key (group_key x)) firsts (group_key s) (apart differs (same_key (group_key x) (group_key s)) refl)))
        ]
          where
            apart : (place_of keys x ≡ place_of keys s → ⊥) → (b : Bool) → same_key (group_key x) (group_key s) ≡ b → b ≡ false
            apart differs true is = absurd (differs (sym (place_of_one keys s x (sym (same_keys x s) ∙ is))))
            apart differs false is = refl

-- ---- the keys that lines bring

module _ (found : GroupKey → Option Summary) where
  -- those of some lines, and then those of others
  pub keys_append : (keys : List GroupKey) (lines later : List Line) → keys_after found keys (lines ++ later) ≡ keys_after found (keys_after found keys lines) later
  keys_append keys lines later =
      ap (λ (ss : List Sighting). insert_all same_key keys (map group_key (accepted_by found ss))) (filter_map-append (λ l. result_ok l.read) lines later)
      ∙ ap (λ (ss : List Sighting). insert_all same_key keys (map group_key ss)) (filter-append (λ s. is_none (fault_by (found (group_key s)) s)) (passed_in lines) (passed_in later))
      ∙ ap (insert_all same_key keys) (map-append group_key (accepted_by found (passed_in lines)) (accepted_by found (passed_in later)))
      ∙ fold-append (insert_key same_key) keys (map group_key (accepted_by found (passed_in lines))) (map group_key (accepted_by found (passed_in later)))

  -- the key of one line
  pub keys_one : (keys : List GroupKey) (line : Line) (s : Sighting) (fault : Option RuleCode) → line.read ≡ Ok s → fault ≡ fault_by (found (group_key s)) s
      → keys_after found keys (line ∷ []) ≡ cond (is_none fault) (insert_key same_key keys (group_key s)) keys
  keys_one keys line s fault read told =
      ap (λ (r : Result Sighting RuleCode). keys_after found keys (record line { read = r } ∷ [])) read
      ∙ ap (λ (o : Option RuleCode). insert_all same_key keys (map group_key (cond (is_none o) (s ∷ []) []))) (sym told)
      ∙ by (is_none fault)
    where
      by : (b : Bool) → insert_all same_key keys (map group_key (cond b (s ∷ []) [])) ≡ cond b (insert_key same_key keys (group_key s)) keys
      by true = refl
      by false = refl

  pub keys_none : (keys : List GroupKey) (line : Line) (rule : RuleCode) → line.read ≡ Err rule → keys_after found keys (line ∷ []) ≡ keys
  keys_none keys line rule read = ap (λ (r : Result Sighting RuleCode). keys_after found keys (record line { read = r } ∷ [])) read

-- ---- a list that is left

pub left_next : {A : Type 0} (xs ys : List A) (place : ℕ) (y : A) → drop place xs ≡ y ∷ ys → (slice_get xs place ≡ Some y) × (place < length xs) × (drop (place + 1) xs ≡ ys)
left_next [] ys place y is = absurd (none place is)
  where
    none : {A : Type 0} {y : A} {ys : List A} (n : ℕ) → drop n [] ≡ y ∷ ys → ⊥
    none zero is = cc
    none (suc n) is = cc
left_next (x ∷ xs) ys zero y is = (cc, omega arith, cc)
left_next (x ∷ xs) ys (suc n) y is =
    let rest = left_next xs ys n y is in
    let more : suc n + 1 ≡ suc (n + 1) = omega arith in
    (rest.0, omega (arith, rest.1), ap (λ (k : ℕ). drop k (x ∷ xs)) more ∙ rest.2)

-- the next point is that of the next line that has one, and those of the lines after it are left
pub is_next : (groups : KeptGroups) (place : ℕ) (line : Line) (rest : List Line) → AreWithin (length groups.keys) groups.points → drop place groups.points ≡ map (point_of groups.keys) (passed_in (line ∷ rest))
    → IsNext groups place line.read × (drop (place + points_in line.read) groups.points ≡ map (point_of groups.keys) (passed_in rest))
is_next groups place line rest within left = by line.read left
  where
    by : (read : Result Sighting RuleCode) → drop place groups.points ≡ map (point_of groups.keys) (passed_in (record line { read = read } ∷ rest))
        → IsNext groups place read × (drop (place + points_in read) groups.points ≡ map (point_of groups.keys) (passed_in rest))
    by (Ok s) left =
        let next = left_next groups.points (map (point_of groups.keys) (passed_in rest)) place (point_of groups.keys s) left in
        let own : get_or groups.points place (point_of groups.keys s) ≡ point_of groups.keys s = get_or_from_slice_get groups.points place (point_of groups.keys s) (point_of groups.keys s) next.0 in
        ((next.0, subst (λ (p : Point). p.group < length groups.keys) own (within place (point_of groups.keys s) next.1)), next.2)
    by (Err rule) left =
        let same : place + 0 ≡ place = omega arith in
        (tt, ap (λ (n : ℕ). drop n groups.points) same ∙ left)
