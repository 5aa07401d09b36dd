-- Rows can count what an office has, where there aren't too many.
use Rattle.std.proofs.Common.{◌≡◌, ℕ, zero, suc, ◌+◌, ◌≤◌, Bool, true, false, cond, ltb, List, [], ◌∷◌, length, Option, Some, None, refl, ap, ◌∙◌, arith}
use Rattle.std.specs.List.{filter_map, cons_option}
use Rattle.std.proofs.lemmas.Bool.{ltb-false}
use Rattle.std.proofs.lemmas.List.{length-append, length-map}
use Rattle.packed_names.specs.declared.name.Designation.{Designation}
use Rattle.tracklet_file.specs.declared.observation.Observation.{Observation}
use Rattle.act_model.specs.declared.deed.Deed.{Deed}
use Rattle.act_model.specs.declared.entry.Entry.{Entry}
use Rattle.act_model.specs.declared.seen.Seen.{Seen}
use Rattle.act_model.specs.Catalogue.{in_object}
use Rattle.act_model.specs.Deeds.{deeds}
use Rattle.act_model.specs.Designations.{links_of, principals}
use Rattle.act_model.specs.Discoveries.{seen_at, is_sooner}
use Rattle.act_model.specs.Holdings.{holdings, numbers_where}
use Rattle.act_model.specs.Numbers.{is_in_object}
use Rattle.act_model.specs.Observations.{observations}
use Rattle.act_model.specs.Shelves.{by_time, placed_by_time, numbers_to}
use Rattle.mirror_store.specs.Mirrored.{greatest, mirrored, object_rows_from, sight_of, too_many, uncountable}

-- ---- live observations

length-one : {A : Type 0} (b : Bool) (x : A) → length (cond b (x ∷ []) []) ≤ 1
length-one true x = omega arith
length-one false x = omega arith

length-numbers_where : (is_so : Observation → Bool) (all : List Observation) → length (numbers_where is_so all) ≤ length all
length-numbers_where is_so [] = omega arith
length-numbers_where is_so (newest ∷ older) =
    omega (arith, length-numbers_where is_so older, length-append (numbers_where is_so older) (cond (is_so newest) ((length older + 1) ∷ []) []), length-one (is_so newest) (length older + 1))

length-given : {Y : Type 0} (given : Option Y) (ys : List Y) → length (cons_option given ys) ≤ suc (length ys)
length-given None ys = omega arith
length-given (Some y) ys = omega arith

length-filter_map : {X Y : Type 0} (f : X → Option Y) (xs : List X) → length (filter_map f xs) ≤ length xs
length-filter_map f [] = omega arith
length-filter_map f (x ∷ xs) = omega (arith, length-filter_map f xs, length-given (f x) (filter_map f xs))

length-placed : (s : Seen) (others : List Seen) → length (placed_by_time s others) ≡ suc (length others)
length-placed s [] = refl
length-placed s (next ∷ more) = by (is_sooner next s) (placed_by_time s more) (length-placed s more)
  where
    by : (b : Bool) (placed : List Seen) → length placed ≡ suc (length more) → length (cond b (next ∷ placed) (s ∷ next ∷ more)) ≡ suc (suc (length more))
    by true placed is = ap suc is
    by false placed is = refl

length-by_time : (all : List Seen) → length (by_time all) ≡ length all
length-by_time [] = refl
length-by_time (s ∷ more) = length-placed s (by_time more) ∙ ap suc (length-by_time more)

-- an object has at most as many live observations as were accepted
pub length-in_object : (past : List Deed) (p : Designation) → length (in_object past p) ≤ observations past
length-in_object past p =
    let held = holdings past in
    let numbers = numbers_where (is_in_object held (links_of past) p) held.observations in
    let seen = filter_map (seen_at held.observations) numbers in
    omega (arith, length-map (by_time seen) (λ (s : Seen). s.number), length-by_time seen, length-filter_map (seen_at held.observations) numbers, length-numbers_where (is_in_object held (links_of past) p) held.observations)

-- ---- rows

pub length-object_rows : (past : List Deed) (place : ℕ) (names : List Designation) → length (object_rows_from past place names) ≡ length names
length-object_rows past place [] = refl
length-object_rows past place (p ∷ more) = ap suc (length-object_rows past (place + 1) more)

length-numbers_to : (n : ℕ) → length (numbers_to n) ≡ n
length-numbers_to zero = refl
length-numbers_to (suc n) = omega (arith, length-append (numbers_to n) (suc n ∷ []), length-numbers_to n)

pub length-rows_to : {Y : Type 0} (f : ℕ → Option Y) (n : ℕ) → length (filter_map f (numbers_to n)) ≤ n
length-rows_to f n = omega (arith, length-filter_map f (numbers_to n), length-numbers_to n)

-- ---- not too many

not_some : {A : Type 0} (b : Bool) (x : A) (other : Option A) → cond b (Some x) other ≡ None → (b ≡ false) × (other ≡ None)
not_some true x other none = absurd cc
not_some false x other none = (refl, none)

-- where there aren't too many, rows can count both
pub few : (accepted names : ℕ) → too_many accepted names ≡ None → (accepted ≤ greatest) × (names ≤ greatest)
few accepted names none =
    let first = not_some (ltb greatest accepted) accepted (cond (ltb greatest names) (Some names) None) none in
    let second = not_some (ltb greatest names) names None first.1 in
    (ltb-false greatest accepted first.0, ltb-false greatest names second.0)

pub few_objects : (history : List Entry) → uncountable history ≡ None → length (mirrored history).objects ≤ greatest
unfolding mirrored
few_objects history none =
    let names = principals (links_of (deeds history)) in
    omega (arith, length-object_rows (deeds history) 1 names, (few (observations (deeds history)) (length names) none).1)

pub few_sights : (history : List Entry) → uncountable history ≡ None → length (mirrored history).sights ≤ greatest
unfolding mirrored
few_sights history none =
    let past = deeds history in
    omega (arith, length-rows_to (sight_of past) (observations past), (few (observations past) (length (principals (links_of past))) none).0)
