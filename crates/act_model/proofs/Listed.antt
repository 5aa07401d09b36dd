-- The catalogue has each live observation once.
use Rattle.std.proofs.Common.{◌≡◌, ℕ, zero, suc, ◌+◌, ◌<◌, ◌≤◌, List, [], ◌∷◌, ◌++◌, length, map, filter, Bool, true, false, cond, not, ◌&&◌, ◌==◌, Option, Some, None, refl, sym, ap, ◌∙◌, arith, flat_map, filter_map, eqb-true, eq-eqb, ne_eqb}
use Rattle.std.specs.Prelude.{count_by, is_some, is_none, nat_lt}
use Rattle.std.specs.List.{cons_option}
use Rattle.std.specs.Option.{option_map_or}
use Rattle.std.proofs.lemmas.Bool.Decides.{nat_tests}
use Rattle.std.proofs.lemmas.List.Sums.{sum_by-append, sum_by-cons}
use Rattle.packed_names.specs.declared.name.Designation.{Designation}
use Rattle.tracklet_file.specs.declared.observation.Observation.{Observation}
use Rattle.tracklet_file.specs.Numbering.{next_number, numbered}
use Rattle.tracklet_file.specs.Observations.{is_live, observations_of}
use Rattle.tracklet_file.specs.Tracklets.{home_of, is_homed}
use Rattle.act_model.specs.declared.deed.Deed.{Deed}
use Rattle.act_model.specs.declared.entry.Entry.{Entry}
use Rattle.act_model.specs.declared.seen.Seen.{Seen}
use Rattle.act_model.specs.Catalogue.{in_object, in_track, has_live, listed_tracks}
use Rattle.act_model.specs.Listing.{observations_listed}
use Rattle.act_model.specs.Deeds.{deeds}
use Rattle.act_model.specs.Designations.{links_of, principals}
use Rattle.act_model.specs.Discoveries.{is_sooner, seen_if_live, seen_at}
use Rattle.act_model.specs.Holdings.{Holdings, holdings, numbers_where}
use Rattle.act_model.specs.Numbers.{is_in_object}
use Rattle.act_model.specs.Places.{times, is_accepted_number, object_of}
use Rattle.act_model.specs.Verdicts.{object_of_track}
use Rattle.identify_core.specs.Acts.{is_principal_of}
use Rattle.act_model.specs.Shelves.{placed_by_time, by_time, live_by_time, numbers_to, has_no_home, isolated_tracklets}
use Rattle.act_model.proofs.Homes.{EqualIsSame, StayOwn, home_given, sound}
use Rattle.act_model.proofs.Objects.{PrincipalOnce, objects_measure}
use Rattle.act_model.proofs.Places.{once_if, times_more, where_more}
use Rattle.act_model.proofs.TracksThere.{tracks_there}

times_cons : (k x : ℕ) (xs : List ℕ) → times k (x ∷ xs) ≡ once_if (x == k) + times k xs
times_cons k x xs = sum_by-cons (λ n. cond (n == k) 1 0) x xs

-- ---- the order of times leaves the counts

swapped : (a b c : ℕ) → a + (b + c) ≡ b + (a + c)
swapped a b c = omega arith

times_placed : (k : ℕ) (s : Seen) (seen : List Seen) → times k (map (λ s. s.number) (placed_by_time s seen)) ≡ once_if (s.number == k) + times k (map (λ s. s.number) seen)
times_placed k s [] = times_cons k s.number []
times_placed k s (next ∷ more) = by (is_sooner next s) (times_placed k s more)
  where
    by : (b : Bool) → times k (map (λ s. s.number) (placed_by_time s more)) ≡ once_if (s.number == k) + times k (map (λ s. s.number) more)
        → times k (map (λ s. s.number) (cond b (next ∷ placed_by_time s more) (s ∷ next ∷ more))) ≡ once_if (s.number == k) + times k (map (λ s. s.number) (next ∷ more))
    by false rest = times_cons k s.number (next.number ∷ map (λ s. s.number) more)
    by true rest =
        times_cons k next.number (map (λ s. s.number) (placed_by_time s more))
        ∙ ap (λ (n : ℕ). once_if (next.number == k) + n) rest
        ∙ swapped (once_if (next.number == k)) (once_if (s.number == k)) (times k (map (λ s. s.number) more))
        ∙ ap (λ (n : ℕ). once_if (s.number == k) + n) (sym (times_cons k next.number (map (λ s. s.number) more)))

dead : (same live : Bool) (n : ℕ) → (same ≡ true → live ≡ false) → cond live n 0 ≡ cond live (once_if same + n) 0
dead true true n apart = absurd (let no : true ≡ false = apart refl in cc)
dead true false n apart = refl
dead false true n apart = omega arith
dead false false n apart = refl

alive : (same live : Bool) (n : ℕ) → (same ≡ true → live ≡ true) → once_if same + cond live n 0 ≡ cond live (once_if same + n) 0
alive true true n is = refl
alive true false n is = absurd (let no : false ≡ true = is refl in cc)
alive false true n is = refl
alive false false n is = refl

zero_more : (n : ℕ) → 0 + n ≡ n
zero_more n = omega arith

none_live : (live : Bool) → ◌≡◌ {A = ℕ} 0 (cond live 0 0)
none_live true = refl
none_live false = refl

module _ (observations : List Observation) (k : ℕ) where
  live_of_found : (x : ℕ) (found : Option Observation) → numbered observations x ≡ found → (x == k) ≡ true → is_live observations k ≡ option_map_or (λ o. o.live) found false
  live_of_found x found is same = let e : x ≡ k = eqb-true x k same in ap (λ (n : ℕ). is_live observations n) (sym e) ∙ ap (λ (f : Option Observation). option_map_or (λ o. o.live) f false) is

  one_seen : (x : ℕ) (o : Observation) (numbers : List ℕ) (life : Bool) → ((x == k) ≡ true → is_live observations k ≡ life)
      → times k (live_by_time observations numbers) ≡ cond (is_live observations k) (times k numbers) 0
      → times k (map (λ s. s.number) (by_time (cons_option (cond life (Some (record { number = x; time = o.sighting.time })) None) (filter_map (seen_at observations) numbers)))) ≡ cond (is_live observations k) (times k (x ∷ numbers)) 0
  one_seen x o numbers false same rest =
      rest ∙ dead (x == k) (is_live observations k) (times k numbers) same
      ∙ ap (λ (n : ℕ). cond (is_live observations k) n 0) (sym (times_cons k x numbers))
  one_seen x o numbers true same rest =
      times_placed k (record { number = x; time = o.sighting.time }) (by_time (filter_map (seen_at observations) numbers))
      ∙ ap (λ (n : ℕ). once_if (x == k) + n) rest
      ∙ alive (x == k) (is_live observations k) (times k numbers) same
      ∙ ap (λ (n : ℕ). cond (is_live observations k) n 0) (sym (times_cons k x numbers))

  times_live : (numbers : List ℕ) → times k (live_by_time observations numbers) ≡ cond (is_live observations k) (times k numbers) 0
  times_live [] = none_live (is_live observations k)
  times_live (x ∷ numbers) = by (numbered observations x) refl (times_live numbers)
    where
      by : (found : Option Observation) → numbered observations x ≡ found → times k (live_by_time observations numbers) ≡ cond (is_live observations k) (times k numbers) 0
          → times k (map (λ s. s.number) (by_time (cons_option (seen_if_live x found) (filter_map (seen_at observations) numbers)))) ≡ cond (is_live observations k) (times k (x ∷ numbers)) 0
      by None is rest =
          rest ∙ dead (x == k) (is_live observations k) (times k numbers) (live_of_found x None is)
          ∙ ap (λ (n : ℕ). cond (is_live observations k) n 0) (sym (times_cons k x numbers))
      by (Some o) is rest = one_seen x o numbers o.live (live_of_found x (Some o) is) rest

-- ---- observations that are so

numbered_past : (observations : List Observation) (k : ℕ) → length observations < k → numbered observations k ≡ None
numbered_past [] k past = refl
numbered_past (newest ∷ older) k past =
    let other : (k == next_number older) ≡ false = grind (arith, nat_tests) in
    ap (λ (b : Bool). cond b (Some newest) (numbered older k)) other ∙ numbered_past older k (omega arith)

with_true : (b : Bool) → 0 + once_if (b && true) ≡ once_if b
with_true true = refl
with_true false = refl

with_false : (b : Bool) (n : ℕ) → n + once_if (b && false) ≡ n
with_false true n = omega arith
with_false false n = omega arith

times_where : (is_so : Observation → Bool) (observations : List Observation) (k : ℕ)
    → times k (numbers_where is_so observations) ≡ option_map_or (λ o. once_if (is_so o)) (numbered observations k) 0
times_where is_so [] k = refl
times_where is_so (newest ∷ older) k = where_more k is_so newest older ∙ by (next_number older == k) refl (times_where is_so older k)
  where
    by : (b : Bool) → (next_number older == k) ≡ b → times k (numbers_where is_so older) ≡ option_map_or (λ o. once_if (is_so o)) (numbered older k) 0
        → times k (numbers_where is_so older) + once_if (is_so newest && (next_number older == k)) ≡ option_map_or (λ o. once_if (is_so o)) (cond (k == next_number older) (Some newest) (numbered older k)) 0
    by true same rest =
        let e : next_number older ≡ k = eqb-true (next_number older) k same in
        let back : (k == next_number older) ≡ true = eq-eqb k (next_number older) (sym e) in
        let none : numbered older k ≡ None = numbered_past older k (omega arith) in
        let nothing : times k (numbers_where is_so older) ≡ 0 = rest ∙ ap (λ (f : Option Observation). option_map_or (λ o. once_if (is_so o)) f 0) none in
        ap (λ (n : ℕ). n + once_if (is_so newest && (next_number older == k))) nothing
        ∙ ap (λ (b : Bool). 0 + once_if (is_so newest && b)) same
        ∙ with_true (is_so newest)
        ∙ sym (ap (λ (b : Bool). option_map_or (λ o. once_if (is_so o)) (cond b (Some newest) (numbered older k)) 0) back)
    by false other rest =
        let back : (k == next_number older) ≡ false = ne_eqb k (next_number older) (λ e. let no : true ≡ false = sym (eq-eqb (next_number older) k (sym e)) ∙ other in absurd cc) in
        ap (λ (b : Bool). times k (numbers_where is_so older) + once_if (is_so newest && b)) other
        ∙ with_false (is_so newest) (times k (numbers_where is_so older))
        ∙ rest
        ∙ sym (ap (λ (b : Bool). option_map_or (λ o. once_if (is_so o)) (cond b (Some newest) (numbered older k)) 0) back)

abbrev is_of : ℕ → Observation → Bool
is_of t o = o.track == t

and_true : (b : Bool) → (b && true) ≡ b
and_true true = refl
and_true false = refl

of_track_where : (observations : List Observation) (t : ℕ) → observations_of observations t ≡ numbers_where (is_of t) observations
of_track_where [] t = refl
of_track_where (newest ∷ older) t =
    let some : nat_lt 0 (next_number older) ≡ true = grind (arith, nat_tests) in
    ap (λ (l : List ℕ). l ++ cond ((newest.track == t) && nat_lt 0 (next_number older)) (next_number older ∷ []) []) (of_track_where older t)
    ∙ ap (λ (b : Bool). numbers_where (is_of t) older ++ cond b (next_number older ∷ []) []) (ap (λ (b : Bool). (newest.track == t) && b) some ∙ and_true (newest.track == t))

-- ---- lists of lists

times_none : (k : ℕ) {X : Type 0} (f : X → List ℕ) → ((x : X) → times k (f x) ≡ 0) → (xs : List X) → times k (flat_map f xs) ≡ 0
times_none k f none [] = refl
times_none k f none (x ∷ xs) = times_more k (f x) (flat_map f xs) ∙ ap (λ (n : ℕ). n + times k (flat_map f xs)) (none x) ∙ zero_more (times k (flat_map f xs)) ∙ times_none k f none xs

times_same : (k : ℕ) {X : Type 0} (f g : X → List ℕ) → ((x : X) → times k (f x) ≡ times k (g x)) → (xs : List X) → times k (flat_map f xs) ≡ times k (flat_map g xs)
times_same k f g same [] = refl
times_same k f g same (x ∷ xs) =
    times_more k (f x) (flat_map f xs) ∙ ap (λ (n : ℕ). n + times k (flat_map f xs)) (same x) ∙ ap (λ (n : ℕ). times k (g x) + n) (times_same k f g same xs)
    ∙ sym (times_more k (g x) (flat_map g xs))

times_counted : (k : ℕ) {X : Type 0} (f : X → List ℕ) (is_so : X → Bool) → ((x : X) → times k (f x) ≡ once_if (is_so x)) → (xs : List X) → times k (flat_map f xs) ≡ count_by is_so xs
times_counted k f is_so once [] = refl
times_counted k f is_so once (x ∷ xs) =
    times_more k (f x) (flat_map f xs) ∙ ap (λ (n : ℕ). n + times k (flat_map f xs)) (once x) ∙ ap (λ (n : ℕ). once_if (is_so x) + n) (times_counted k f is_so once xs)
    ∙ sym (sum_by-cons (λ y. cond (is_so y) 1 0) x xs)

-- how often a number stands among those that are so
count_kept : (t : ℕ) (is_so : ℕ → Bool) (numbers : List ℕ) → count_by (λ n. t == n) (filter is_so numbers) ≡ cond (is_so t) (count_by (λ n. t == n) numbers) 0
count_kept t is_so [] = none_live (is_so t)
count_kept t is_so (n ∷ numbers) = by (is_so n) refl (count_kept t is_so numbers)
  where
    by : (b : Bool) → is_so n ≡ b → count_by (λ m. t == m) (filter is_so numbers) ≡ cond (is_so t) (count_by (λ m. t == m) numbers) 0
        → count_by (λ m. t == m) (cond b (n ∷ filter is_so numbers) (filter is_so numbers)) ≡ cond (is_so t) (count_by (λ m. t == m) (n ∷ numbers)) 0
    by true is rest =
        sum_by-cons (λ m. cond (t == m) 1 0) n (filter is_so numbers)
        ∙ ap (λ (c : ℕ). once_if (t == n) + c) rest
        ∙ alive (t == n) (is_so t) (count_by (λ m. t == m) numbers) (λ same. let e : t ≡ n = eqb-true t n same in ap is_so e ∙ is)
        ∙ ap (λ (c : ℕ). cond (is_so t) c 0) (sym (sum_by-cons (λ m. cond (t == m) 1 0) n numbers))
    by false is rest =
        rest
        ∙ dead (t == n) (is_so t) (count_by (λ m. t == m) numbers) (λ same. let e : t ≡ n = eqb-true t n same in ap is_so e ∙ is)
        ∙ ap (λ (c : ℕ). cond (is_so t) c 0) (sym (sum_by-cons (λ m. cond (t == m) 1 0) n numbers))

count_numbers : (t n : ℕ) → count_by (λ m. t == m) (numbers_to n) ≡ once_if (is_accepted_number n t)
count_numbers t zero = grind (arith, nat_tests)
count_numbers t (suc n) =
    sum_by-append (λ m. cond (t == m) 1 0) (numbers_to n) (suc n ∷ [])
    ∙ ap (λ (c : ℕ). c + count_by (λ m. t == m) (suc n ∷ [])) (count_numbers t n)
    ∙ ap (λ (c : ℕ). once_if (is_accepted_number n t) + c) (sum_by-cons (λ m. cond (t == m) 1 0) (suc n) [])
    ∙ more n t
  where
    more : (n t : ℕ) → once_if (is_accepted_number n t) + (once_if (t == suc n) + 0) ≡ once_if (is_accepted_number (suc n) t)
    more n t = grind (arith, nat_tests)

-- ---- each live observation

kept_if : (life own : Bool) → cond life (once_if (life && own)) 0 ≡ once_if (life && own)
kept_if true own = refl
kept_if false own = refl

both_if : (life same : Bool) → cond life (once_if same) 0 ≡ once_if (life && same)
both_if true same = refl
both_if false same = refl

module _ (past : List Deed) (k : ℕ) where
  abbrev all : List Observation
  all = (holdings past).observations

  in_object_times : (p : Designation) → times k (in_object past p) ≡ times k (object_of (holdings past) (links_of past) p)
  in_object_times p =
      times_live all k (object_of (holdings past) (links_of past) p)
      ∙ ap (λ (n : ℕ). cond (is_live all k) n 0) (times_where (is_in_object (holdings past) (links_of past) p) all k)
      ∙ by (numbered all k)
      ∙ sym (times_where (is_in_object (holdings past) (links_of past) p) all k)
    where
      by : (found : Option Observation) → cond (option_map_or (λ o. o.live) found false) (option_map_or (λ o. once_if (is_in_object (holdings past) (links_of past) p o)) found 0) 0
          ≡ option_map_or (λ o. once_if (is_in_object (holdings past) (links_of past) p o)) found 0
      by None = refl
      by (Some o) = kept_if o.live (is_principal_of p (object_of_track (holdings past) (links_of past) o.track))

  in_track_times : (t : ℕ) → times k (in_track past t) ≡ option_map_or (λ o. once_if (o.live && (o.track == t))) (numbered all k) 0
  in_track_times t =
      times_live all k (observations_of all t)
      ∙ ap (λ (n : ℕ). cond (is_live all k) n 0) (ap (times k) (of_track_where all t) ∙ times_where (is_of t) all k)
      ∙ by (numbered all k)
    where
      by : (found : Option Observation) → cond (option_map_or (λ o. o.live) found false) (option_map_or (λ o. once_if (is_of t o)) found 0) 0
          ≡ option_map_or (λ o. once_if (o.live && (o.track == t))) found 0
      by None = refl
      by (Some o) = both_if o.live (o.track == t)

some_in : (k : ℕ) (numbers : List ℕ) → times k numbers ≡ 1 → not (length numbers == 0) ≡ true
some_in k [] is = absurd (omega arith)
some_in k (n ∷ numbers) is = grind (arith, nat_tests)

within : (n t : ℕ) → 1 ≤ t → t ≤ n → once_if (is_accepted_number n t) ≡ 1
within n t from to = grind (arith, nat_tests)

module _ (history : List Entry) (k : ℕ) where
  abbrev held : Holdings
  held = holdings (deeds history)

  -- the isolated tracklets have it where its own is one of them
  listed_times : (o : Observation) → numbered held.observations k ≡ Some o → o.live ≡ true
      → times k (flat_map (in_track (deeds history)) (listed_tracks (deeds history))) ≡ once_if (has_no_home held.tracklets o.track)
  listed_times o found live =
      let past = deeds history in
      let n = length held.tracklets in
      let there = tracks_there history k o found in
      let each = λ (t : ℕ). in_track_times past k t ∙ ap (λ (f : Option Observation). option_map_or (λ o. once_if (o.live && (o.track == t))) f 0) found ∙ ap (λ (b : Bool). once_if (b && (o.track == t))) live in
      let own : times k (in_track past o.track) ≡ 1 = each o.track ∙ ap once_if (eq-eqb o.track o.track refl) in
      times_counted k (in_track past) (λ t. o.track == t) each (listed_tracks past)
      ∙ count_kept o.track (has_live past) (isolated_tracklets held.tracklets)
      ∙ ap (λ (b : Bool). cond b (count_by (λ m. o.track == m) (isolated_tracklets held.tracklets)) 0) (some_in k (in_track past o.track) own)
      ∙ count_kept o.track (has_no_home held.tracklets) (numbers_to n)
      ∙ ap (λ (c : ℕ). cond (has_no_home held.tracklets o.track) c 0) (count_numbers o.track n ∙ within n o.track there.0 there.1)

  -- and none has one that isn't live
  unlisted : (is_live held.observations k ≡ false) → times k (flat_map (in_track (deeds history)) (listed_tracks (deeds history))) ≡ 0
  unlisted dead_is =
      times_none k (in_track (deeds history))
      (λ t. times_live held.observations k (observations_of held.observations t) ∙ ap (λ (b : Bool). cond b (times k (observations_of held.observations t)) 0) dead_is)
      (listed_tracks (deeds history))

  homed_times : PrincipalOnce → EqualIsSame → StayOwn → times k (flat_map (in_object (deeds history)) (principals (links_of (deeds history))))
      ≡ option_map_or (λ o. once_if (is_homed held.tracklets o)) (numbered held.observations k) 0
  homed_times principal_once equal stay =
      let past = deeds history in
      let acts = links_of past in
      let s = sound equal stay history in
      let given = λ (t : ℕ) (d : Designation) (is : home_of held.tracklets t ≡ Some d). home_given acts held.tracklets t d s.homes is in
      times_same k (in_object past) (object_of held acts) (in_object_times past k) (principals acts)
      ∙ objects_measure principal_once held acts s.own given (times k) refl (times_more k)
      ∙ times_where (is_homed held.tracklets) held.observations k

  one_way : (home : Option Designation) → once_if (is_some home) + once_if (is_none home) ≡ 1
  one_way None = refl
  one_way (Some d) = refl

  pub listed_once : PrincipalOnce → EqualIsSame → StayOwn → times k (observations_listed (deeds history)) ≡ once_if (is_live held.observations k)
  listed_once principal_once equal stay =
      let past = deeds history in
      let objects = flat_map (in_object past) (principals (links_of past)) in
      let tracks = flat_map (in_track past) (listed_tracks past) in
      times_more k objects tracks
      ∙ ap (λ (n : ℕ). n + times k tracks) (homed_times principal_once equal stay)
      ∙ by (numbered held.observations k) refl
    where
      of_life : (o : Observation) (life : Bool) → numbered held.observations k ≡ Some o → o.live ≡ life
          → once_if (life && is_some (home_of held.tracklets o.track)) + times k (flat_map (in_track (deeds history)) (listed_tracks (deeds history))) ≡ once_if life
      of_life o false found life = ap (λ (n : ℕ). 0 + n) (unlisted (ap (λ (f : Option Observation). option_map_or (λ o. o.live) f false) found ∙ life))
      of_life o true found life =
          ap (λ (n : ℕ). once_if (is_some (home_of held.tracklets o.track)) + n) (listed_times o found life)
          ∙ one_way (home_of held.tracklets o.track)

      by : (found : Option Observation) → numbered held.observations k ≡ found
          → option_map_or (λ o. once_if (is_homed held.tracklets o)) found 0 + times k (flat_map (in_track (deeds history)) (listed_tracks (deeds history))) ≡ once_if (option_map_or (λ o. o.live) found false)
      by None found = ap (λ (n : ℕ). 0 + n) (unlisted (ap (λ (f : Option Observation). option_map_or (λ o. o.live) f false) found))
      by (Some o) found = of_life o o.live found refl
