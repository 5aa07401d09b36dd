-- The groups in the order of their firsts, by their keys; and rulings by them.
use Rattle.std.proofs.Common.{◌≡◌, ℕ, ◌+◌, ◌<◌, length, Bool, true, false, not, ◌||◌, cond, List, [], ◌∷◌, ◌++◌, map, Option, Some, None, Result, Ok, Err, refl, ap, sym, ◌∙◌, true≢false, append_assoc, arith}
use Rattle.std.specs.Prelude.{position, unwrap_or, is_none, nat_lt}
use Rattle.std.specs.List.{list_any, position_or_len}
use Rattle.std.proofs.lemmas.Bool.Decides.{nat_tests}
use Rattle.std.proofs.lemmas.List.{append-nil, length-map}
use Rattle.indexmap.specs.IndexSet.{insert_key, insert_all}
use Rattle.obs_record.specs.declared.line.Line.{Line}
use Rattle.obs_record.specs.declared.sighting.Sighting.{Sighting}
use Rattle.obs_record.specs.declared.rule.RuleCode.{RuleCode}
use Rattle.act_model.specs.declared.ruling.Ruling.{Ruling}
use Rattle.act_model.specs.BatchRules.{same_group, group_fault, reading_fault, accepted_of, firsts_after, firsts_of, group_among, ruling_among, rulings_among, passed_in}
use Rattle.batch_rules.specs.contracts.keys.GroupKeyEq.TheImpl.Laws.{laws-law}
use Rattle.batch_rules.specs.declared.keys.GroupKey.{GroupKey}
use Rattle.batch_rules.specs.declared.groups.Summary.{Summary}
use Rattle.batch_rules.specs.KeyTests.{same_key}
use Rattle.batch_rules.specs.Groups.{group_key, fault_by, reading_by, accepted_by}
use Rattle.batch_rules.specs.Numbers.{keys_after, number_by, ruling_by}
use Rattle.batch_rules.proofs.Any.{any_push, placed_any}
use Rattle.batch_rules.proofs.KeyLemmas.{same_keys}
use Rattle.batch_rules.proofs.Lists.{filter_same}

-- ---- keys of groups, each once

-- the keys of firsts among further lines go after those that were seen
keys_first : (seen xs : List Sighting) (keys : List GroupKey) → ((x : Sighting) → list_any (same_key (group_key x)) keys ≡ list_any (same_group x) seen)
    → insert_all same_key keys (map group_key xs) ≡ keys ++ map group_key (firsts_after seen xs)
keys_first seen [] keys told = sym (append-nil keys)
keys_first seen (x ∷ xs) keys told =
    ap (λ (b : Bool). insert_all same_key (cond b keys (keys ++ group_key x ∷ [])) (map group_key xs)) (told x)
    ∙ by (list_any (same_group x) seen) (keys_first seen xs keys told) (keys_first (x ∷ seen) xs (keys ++ group_key x ∷ []) more)
  where
    more : (y : Sighting) → list_any (same_key (group_key y)) (keys ++ group_key x ∷ []) ≡ list_any (same_group y) (x ∷ seen)
    more y =
        any_push (same_key (group_key y)) keys (group_key x) ∙ ap (λ (b : Bool). b || list_any (same_key (group_key y)) keys) (same_keys y x)
        ∙ ap (λ (b : Bool). same_group y x || b) (told y)

    by : (b : Bool) → insert_all same_key keys (map group_key xs) ≡ keys ++ map group_key (firsts_after seen xs)
        → insert_all same_key (keys ++ group_key x ∷ []) (map group_key xs) ≡ (keys ++ group_key x ∷ []) ++ map group_key (firsts_after (x ∷ seen) xs)
        → insert_all same_key (cond b keys (keys ++ group_key x ∷ [])) (map group_key xs) ≡ keys ++ map group_key (cond b (firsts_after seen xs) (x ∷ firsts_after (x ∷ seen) xs))
    by true old new = old
    by false old new = new ∙ append_assoc keys (group_key x ∷ []) (map group_key (firsts_after (x ∷ seen) xs))

-- ---- the place of a key, once it is there

module _ (k : GroupKey) where
  -- a key that is among others or goes last has the place that it would be given
  place_pushed : (keys : List GroupKey) (x : GroupKey) → list_any (same_key k) (keys ++ x ∷ []) ≡ true → position_or_len (same_key k) (keys ++ x ∷ []) ≡ position_or_len (same_key k) keys
  place_pushed [] x found = by (same_key k x) found
    where
      by : (b : Bool) → b || false ≡ true → cond (not b) (1 + 0) 0 ≡ 0
      by true is = refl
      by false is = absurd (true≢false (sym is))
  place_pushed (y ∷ ys) x found = by (same_key k y) found (place_pushed ys x)
    where
      by : (b : Bool) → b || list_any (same_key k) (ys ++ x ∷ []) ≡ true
          → (list_any (same_key k) (ys ++ x ∷ []) ≡ true → position_or_len (same_key k) (ys ++ x ∷ []) ≡ position_or_len (same_key k) ys)
          → cond (not b) (1 + position_or_len (same_key k) (ys ++ x ∷ [])) 0 ≡ cond (not b) (1 + position_or_len (same_key k) ys) 0
      by true is rest = refl
      by false is rest = ap (λ (n : ℕ). 1 + n) (rest is)

  -- the key is there, and its place is this one
  abbrev pub StandsAt : ℕ → List GroupKey → Type 0
  StandsAt place keys = (list_any (same_key k) keys ≡ true) × (position_or_len (same_key k) keys ≡ place)

  pub stands_more : (place : ℕ) (keys : List GroupKey) (x : GroupKey) → StandsAt place keys → StandsAt place (insert_key same_key keys x)
  stands_more place keys x stands = by (list_any (same_key x) keys)
    where
      still : list_any (same_key k) (keys ++ x ∷ []) ≡ true
      still = any_push (same_key k) keys x ∙ ap (λ (b : Bool). same_key k x || b) stands.0 ∙ either (same_key k x)
        where
          either : (b : Bool) → b || true ≡ true
          either true = refl
          either false = refl

      by : (b : Bool) → StandsAt place (cond b keys (keys ++ x ∷ []))
      by true = stands
      by false = (still, place_pushed keys x still ∙ stands.1)

  -- it keeps its place whatever keys come after it
  stands_after : (place : ℕ) (keys xs : List GroupKey) → StandsAt place keys → StandsAt place (insert_all same_key keys xs)
  stands_after place keys [] stands = stands
  stands_after place keys (x ∷ xs) stands = stands_after place (insert_key same_key keys x) xs (stands_more place keys x stands)

  pub stands_own : (keys : List GroupKey) → StandsAt (position_or_len (same_key k) keys) (insert_key same_key keys k)
  stands_own keys = by (list_any (same_key k) keys) refl
    where
      last : list_any (same_key k) (keys ++ k ∷ []) ≡ true
      last = any_push (same_key k) keys k ∙ ap (λ (b : Bool). b || list_any (same_key k) keys) (laws-law.refl k)

      by : (b : Bool) → list_any (same_key k) keys ≡ b → StandsAt (position_or_len (same_key k) keys) (cond b keys (keys ++ k ∷ []))
      by true is = (is, refl)
      by false is = (last, place_pushed keys k last)

  place_found : (place : ℕ) (keys : List GroupKey) → StandsAt place keys → place ≡ unwrap_or (position (same_key k) keys) 0
  place_found place keys stands =
      let low : position_or_len (same_key k) keys < length keys = placed_any (same_key k) keys stands.0 in
      let there : nat_lt (position_or_len (same_key k) keys) (length keys) ≡ true = grind (arith, nat_tests) in
      sym stands.1 ∙ sym (ap (λ (b : Bool). unwrap_or (cond b (Some (position_or_len (same_key k) keys)) None) 0) there)

-- ---- one more line

abbrev pub ruling : ℕ → Option RuleCode → ℕ → Ruling
ruling line fault group = record { line = line; fault = fault; group = group }

module _ (found : GroupKey → Option Summary) where
  pub place_final : (keys : List GroupKey) (s : Sighting) (later : List Line) (fault : Option RuleCode)
      → cond (is_none fault) (position_or_len (same_key (group_key s)) keys) 0
      ≡ number_by (keys_after found (cond (is_none fault) (insert_key same_key keys (group_key s)) keys) later) fault (Ok s)
  place_final keys s later None =
      let after = map group_key (accepted_by found (passed_in later)) in
      place_found (group_key s) (position_or_len (same_key (group_key s)) keys) (insert_all same_key (insert_key same_key keys (group_key s)) after)
      (stands_after (group_key s) (position_or_len (same_key (group_key s)) keys) (insert_key same_key keys (group_key s)) after (stands_own (group_key s) keys))
  place_final keys s later (Some rule) = refl

  -- the ruling on an observation, whatever lines come after it, and on a line that broke a rule before
  pub ruling_more : (keys more : List GroupKey) (line : Line) (s : Sighting) (later : List Line) (ruled : Option RuleCode × ℕ) → line.read ≡ Ok s → ruled.0 ≡ fault_by (found (group_key s)) s
      → more ≡ cond (is_none ruled.0) (insert_key same_key keys (group_key s)) keys → ruled.1 ≡ cond (is_none ruled.0) (position_or_len (same_key (group_key s)) keys) 0
      → ruling line.number ruled.0 ruled.1 ≡ ruling_by found (keys_after found more later) line
  ruling_more keys more line s later ruled is told keys_are place =
      ap (λ (n : ℕ). ruling line.number ruled.0 n) (place ∙ place_final keys s later ruled.0)
      ∙ ap (λ (ks : List GroupKey). ruling line.number ruled.0 (number_by (keys_after found ks later) ruled.0 (Ok s))) (sym keys_are)
      ∙ ap (λ (fault : Option RuleCode). ruling line.number fault (number_by (keys_after found more later) fault (Ok s))) told
      ∙ ap (λ (read : Result Sighting RuleCode). ruling_by found (keys_after found more later) (record line { read = read })) (sym is)

  pub ruling_still : (keys : List GroupKey) (line : Line) (rule : RuleCode) → line.read ≡ Err rule → ruling line.number (Some rule) 0 ≡ ruling_by found keys line
  ruling_still keys line rule is = ap (λ (read : Result Sighting RuleCode). ruling_by found keys (record line { read = read })) (sym is)

-- ---- rulings

place_of_key : (x : Sighting) (xs : List Sighting) → position_or_len (same_key (group_key x)) (map group_key xs) ≡ position_or_len (same_group x) xs
place_of_key x [] = refl
place_of_key x (y ∷ ys) =
    ap (λ (b : Bool). cond (not b) (1 + position_or_len (same_key (group_key x)) (map group_key ys)) 0) (same_keys x y)
    ∙ ap (λ (n : ℕ). cond (not (same_group x y)) (1 + n) 0) (place_of_key x ys)

same_place : (x : Sighting) (xs : List Sighting) → position (same_key (group_key x)) (map group_key xs) ≡ position (same_group x) xs
same_place x xs =
    ap (λ (n : ℕ). cond (nat_lt n (length (map group_key xs))) (Some n) None) (place_of_key x xs)
    ∙ ap (λ (m : ℕ). cond (nat_lt (position_or_len (same_group x) xs) m) (Some (position_or_len (same_group x) xs)) None) (length-map xs group_key)

same_number : (firsts : List Sighting) (fault : Option RuleCode) (read : Result Sighting RuleCode) → number_by (map group_key firsts) fault read ≡ group_among firsts fault read
same_number firsts None (Ok s) = ap (λ (o : Option ℕ). unwrap_or o 0) (same_place s firsts)
same_number firsts None (Err rule) = refl
same_number firsts (Some broken) read = refl

map_same : {A B : Type 0} (f g : A → B) (xs : List A) → ((x : A) → f x ≡ g x) → map f xs ≡ map g xs
map_same f g [] same = refl
map_same f g (x ∷ xs) same = ap (λ (y : _). y ∷ map f xs) (same x) ∙ ap (λ (ys : List _). g x ∷ ys) (map_same f g xs same)

module _ (found : GroupKey → Option Summary) (checked : List Line) (told : (s : Sighting) → fault_by (found (group_key s)) s ≡ group_fault (passed_in checked) s) where
  same_reading : (read : Result Sighting RuleCode) → reading_by found read ≡ reading_fault (passed_in checked) read
  same_reading (Ok s) = told s
  same_reading (Err rule) = refl

  same_accepted : accepted_by found (passed_in checked) ≡ accepted_of (passed_in checked)
  same_accepted =
      filter_same (λ s. is_none (fault_by (found (group_key s)) s)) (λ s. is_none (group_fault (passed_in checked) s)) (passed_in checked) (λ s. ap (λ (o : Option RuleCode). is_none o) (told s))

  same_ruling : (line : Line) → ruling_by found (map group_key (firsts_of (passed_in checked))) line ≡ ruling_among (passed_in checked) line
  same_ruling line =
      ap (λ (fault : Option RuleCode). ruling line.number fault (number_by (map group_key (firsts_of (passed_in checked))) fault line.read)) (same_reading line.read)
      ∙ ap (λ (group : ℕ). ruling line.number (reading_fault (passed_in checked) line.read) group) (same_number (firsts_of (passed_in checked)) (reading_fault (passed_in checked) line.read) line.read)

  keys_told : keys_after found [] checked ≡ map group_key (firsts_of (passed_in checked))
  keys_told =
      keys_first [] (accepted_by found (passed_in checked)) [] (λ x. refl) ∙ ap (λ (xs : List Sighting). map group_key (firsts_after [] xs)) same_accepted

  -- the rulings by what was found of groups are those of the rules
  pub rulings_told : map (ruling_by found (keys_after found [] checked)) checked ≡ rulings_among checked
  rulings_told =
      ap (λ (ks : List GroupKey). map (ruling_by found ks) checked) keys_told
      ∙ map_same (ruling_by found (map group_key (firsts_of (passed_in checked)))) (ruling_among (passed_in checked)) checked same_ruling

  -- and this many groups have an accepted line
  pub groups_told : length (keys_after found [] checked) ≡ length (firsts_of (passed_in checked))
  groups_told = ap (λ (ks : List GroupKey). length ks) keys_told ∙ length-map (firsts_of (passed_in checked)) group_key
