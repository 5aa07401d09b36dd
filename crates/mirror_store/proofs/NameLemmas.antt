-- The designations that an office's rows name are designations, and principals stand in order.
use Rattle.std.proofs.Common.{◌≡◌, ℕ, Bool, true, false, cond, List, [], ◌∷◌, Option, Some, None, refl}
use Rattle.std.specs.Prelude.{is_some, unwrap_or, IfSome, option_map}
use Rattle.std.specs.List.{AllByRecursion, filter}
use Rattle.packed_names.specs.declared.name.Designation.{Designation}
use Rattle.packed_names.specs.Ranges.{IsDesignation}
use Rattle.identify_core.specs.Acts.{LinkAct, is_principal_of, principal, given_in_order}
use Rattle.identify_core.specs.Principals.{IsBefore, IsAscending}
use Rattle.tracklet_file.specs.declared.observation.Observation.{Observation}
use Rattle.tracklet_file.specs.Numbering.{numbered}
use Rattle.tracklet_file.specs.Tracklets.{home_of}
use Rattle.act_model.specs.declared.entry.Entry.{Entry}
use Rattle.act_model.specs.declared.shelf.Place.TheVariants.{Retracted}
use Rattle.act_model.specs.Deeds.{deeds}
use Rattle.act_model.specs.Designations.{links_of, is_given, is_principal, principals}
use Rattle.act_model.specs.Holdings.{holdings}
use Rattle.act_model.specs.Shelves.{place_at_home, place_of, place_of_observation}
use Rattle.mirror_store.specs.Mirrored.{IsNamed}

-- ---- those that pass a test

all_with : {A : Type 0} (P : A → Type 0) (x : A) (b : Bool) (xs : List A) → (b ≡ true → P x) → AllByRecursion P xs → AllByRecursion P (cond b (x ∷ xs) xs)
all_with P x true xs is all = (is refl, all)
all_with P x false xs is all = all

all_tested : {A : Type 0} (P : A → Type 0) (test : A → Bool) (xs : List A) → ((x : A) → test x ≡ true → P x) → AllByRecursion P (filter test xs)
all_tested P test [] is = tt
all_tested P test (x ∷ xs) is = all_with P x (test x) (filter test xs) (is x) (all_tested P test xs is)

before_with : (d e : Designation) (b : Bool) (ds : List Designation) → IsBefore d (e ∷ []) → IsBefore d ds → IsBefore d (cond b (e ∷ ds) ds)
before_with d e true ds one all = (one.0, all)
before_with d e false ds one all = all

before_tested : (test : Designation → Bool) (d : Designation) (ds : List Designation) → IsBefore d ds → IsBefore d (filter test ds)
before_tested test d [] before = tt
before_tested test d (e ∷ ds) before = before_with d e (test e) (filter test ds) (before.0, tt) (before_tested test d ds before.1)

ascending_with : (d : Designation) (b : Bool) (ds : List Designation) → IsBefore d ds → IsAscending ds → IsAscending (cond b (d ∷ ds) ds)
ascending_with d true ds before ascending = (before, ascending)
ascending_with d false ds before ascending = ascending

ascending_tested : (test : Designation → Bool) (ds : List Designation) → IsAscending ds → IsAscending (filter test ds)
ascending_tested test [] ascending = tt
ascending_tested test (d ∷ ds) ascending =
    ascending_with d (test d) (filter test ds) (before_tested test d ds ascending.0) (ascending_tested test ds ascending.1)

-- ---- principals

own_is_given : (d : Designation) (own : Option Designation) → is_principal_of d own ≡ true → is_some own ≡ true
own_is_given d None is = absurd cc
own_is_given d (Some p) is = refl

pub principals_ascend : (acts : List LinkAct) → IsAscending (given_in_order acts) → IsAscending (principals acts)
principals_ascend acts ascending = ascending_tested (is_principal acts) (given_in_order acts) ascending

module _ (given_are : (history : List Entry) (d : Designation) → is_given (links_of (deeds history)) d ≡ true → IsDesignation d) where
  pub principals_are : (history : List Entry) → AllByRecursion IsDesignation (principals (links_of (deeds history)))
  principals_are history =
      let acts = links_of (deeds history) in
      all_tested IsDesignation (is_principal acts) (given_in_order acts) (λ d own. given_are history d (own_is_given d (principal acts d) own))

-- ---- places

home_of_object : (d : Designation) (own : Option Designation) → is_some own ≡ true → ((p : Designation) → own ≡ Some p → IsDesignation p) → IsDesignation (unwrap_or own d)
home_of_object d None given are = absurd cc
home_of_object d (Some p) given are = are p refl

home_is : (acts : List LinkAct) (home : Option Designation) → ((d : Designation) → home ≡ Some d → is_given acts d ≡ true) → ((d p : Designation) → principal acts d ≡ Some p → IsDesignation p) → IsNamed (place_at_home acts home)
home_is acts None given are = tt
home_is acts (Some d) given are = home_of_object d (principal acts d) (given d refl) (are d)

live_at : (acts : List LinkAct) (home : Option Designation) (live : Bool) → IsNamed (place_at_home acts home) → IsNamed (cond live (place_at_home acts home) Retracted)
live_at acts home true is = is
live_at acts home false is = tt

module _ (homes_given : (history : List Entry) (t : ℕ) (d : Designation) → home_of (holdings (deeds history)).tracklets t ≡ Some d → is_given (links_of (deeds history)) d ≡ true)
    (principals_named : (history : List Entry) (d p : Designation) → principal (links_of (deeds history)) d ≡ Some p → IsDesignation p) where
  pub observation_at : (history : List Entry) (o : Observation) → IsNamed (place_of_observation (holdings (deeds history)) (links_of (deeds history)) o)
  observation_at history o =
      let acts = links_of (deeds history) in
      let home = home_of (holdings (deeds history)).tracklets o.track in
      live_at acts home o.live (home_is acts home (homes_given history o.track) (principals_named history))

  pub places_are : (history : List Entry) (k : ℕ) → IfSome (place_of (holdings (deeds history)) (links_of (deeds history)) k) IsNamed
  places_are history k = by (numbered (holdings (deeds history)).observations k)
    where
      by : (o : Option Observation) → IfSome (option_map (place_of_observation (holdings (deeds history)) (links_of (deeds history))) o) IsNamed
      by None = tt
      by (Some o) = observation_at history o
