-- The observations of an office as rows: each is in range, and they stand by id.
use Rattle.std.proofs.Common.{◌≡◌, ◌⊎◌, inl, inr, ℕ, zero, suc, ◌+◌, ◌<◌, true, List, [], ◌∷◌, ◌++◌, map, take, Option, Some, None, option_map, refl, sym, ap, subst, add-one, arith}
use Rattle.std.proofs.lemmas.Int.{ints}
use Rattle.std.specs.List.{AllByRecursion, filter_map, cons_option}
use Rattle.std.specs.Option.{option_and_then}
use Rattle.std.proofs.lemmas.List.{map-append, append-nil}
use Rattle.std.proofs.lemmas.List.Elements.{filter_map-append}
use Rattle.ascii_text.specs.Laws.{TextLaws}
use Rattle.obs_record.specs.Filed.{IsFiled}
use Rattle.act_bodies.specs.Members.{is_station_code}
use Rattle.packed_names.specs.declared.label.Label.{Label}
use Rattle.tracklet_file.specs.declared.observation.Observation.{Observation}
use Rattle.tracklet_file.specs.Numbering.{numbered}
use Rattle.act_model.specs.declared.deed.Deed.{Deed}
use Rattle.act_model.specs.declared.shelf.Place.{Place}
use Rattle.act_model.specs.declared.shelf.Place.TheVariants.{Retracted, Isolated, Object}
use Rattle.act_model.specs.Designations.{links_of}
use Rattle.act_model.specs.Holdings.{holdings}
use Rattle.act_model.specs.Shelves.{numbers_to, place_of_observation}
use Rattle.mirror_store.specs.declared.rows.SightRow.{SightRow}
use Rattle.mirror_store.specs.Mirrored.{IsNamed, label_of, name_at, printed_label, sight_of, sight_row}
use Rattle.mirror_store.specs.Rows.{Ascend, IsPrintedDesignation, IsEmpty, IsSightRow}
use Rattle.mirror_store.proofs.LabelLemmas.{of_label}
use Rattle.mirror_store.proofs.ObjectLemmas.{printed_is}

-- ---- items that are given

all_with : {Y : Type 0} (P : Y → Type 0) (given : Option Y) (ys : List Y) → ((y : Y) → given ≡ Some y → P y) → AllByRecursion P ys → AllByRecursion P (cons_option given ys)
all_with P None ys first rest = rest
all_with P (Some y) ys first rest = (first y refl, rest)

-- what holds of each item that is given holds of all
pub all_given : {X Y : Type 0} (P : Y → Type 0) (f : X → Option Y) (xs : List X) → ((x : X) (y : Y) → f x ≡ Some y → P y) → AllByRecursion P (filter_map f xs)
all_given P f [] each = tt
all_given P f (x ∷ xs) each = all_with P (f x) (filter_map f xs) (each x) (all_given P f xs each)

-- ---- ids

all_after : (P : ℕ → Type 0) (ns more : List ℕ) → AllByRecursion P ns → AllByRecursion P more → AllByRecursion P (ns ++ more)
all_after P [] more all others = others
all_after P (n ∷ ns) more all others = (all.0, all_after P ns more all.1 others)

all_weaker : (P Q : ℕ → Type 0) (ns : List ℕ) → ((n : ℕ) → P n → Q n) → AllByRecursion P ns → AllByRecursion Q ns
all_weaker P Q [] weaker all = tt
all_weaker P Q (n ∷ ns) weaker all = (weaker n all.0, all_weaker P Q ns weaker all.1)

ascend_more : (ns : List ℕ) (n : ℕ) → Ascend ns → AllByRecursion (λ m. m < n) ns → Ascend (ns ++ n ∷ [])
ascend_more [] n ascend below = (tt, tt)
ascend_more (m ∷ ns) n ascend below =
    (all_after (λ later. m < later) ns (n ∷ []) ascend.0 (below.0, tt), ascend_more ns n ascend.1 below.1)

-- ids that ascend, none of them greater
abbrev Numbered : ℕ → List ℕ → Type 0
Numbered n ids = Ascend ids × AllByRecursion (λ id. id < suc n) ids

numbered_more : (n : ℕ) (ids : List ℕ) (given : Option SightRow) → Numbered n ids → ((row : SightRow) → given ≡ Some row → row.id ≡ suc n)
    → Numbered (suc n) (ids ++ map (λ row. row.id) (cons_option given []))
numbered_more n ids None so_far is = rw append-nil (so_far.0, all_weaker _ _ ids (λ m below. omega arith) so_far.1)
numbered_more n ids (Some row) so_far is =
    let id_is = is row refl in
    let greater = all_weaker (λ id. id < suc n) (λ id. id < suc (suc n)) ids (λ m below. omega arith) so_far.1 in
    rw id_is (ascend_more ids (suc n) so_far.0 so_far.1, all_after (λ id. id < suc (suc n)) ids (suc n ∷ []) greater (omega arith, tt))

module _ (f : ℕ → Option SightRow) (is : (k : ℕ) (row : SightRow) → f k ≡ Some row → row.id ≡ k) where
  numbered_to : (n : ℕ) → Numbered n (map (λ row. row.id) (filter_map f (numbers_to n)))
  numbered_to zero = (tt, tt)
  numbered_to (suc n) =
      rw (filter_map-append f (numbers_to n) (suc n ∷ []), map-append) (numbered_more n _ (f (suc n)) (numbered_to n) (is (suc n)))

  pub ids_ascend : (n : ℕ) → Ascend (map (λ row. row.id) (filter_map f (numbers_to n)))
  ids_ascend n = (numbered_to n).0

-- ---- one observation more

-- the rows so far, and the next one where it is given
pub rows_more : {Y : Type 0} (f : ℕ → Option Y) (n : ℕ) (given : Option Y) (rows more : List Y) → given ≡ f (n + 1) → rows ≡ filter_map f (numbers_to n)
    → more ≡ rows ++ cons_option given [] → more ≡ filter_map f (numbers_to (n + 1))
rows_more f n given rows more given_is rows_are more_are =
    let step : filter_map f (numbers_to (n + 1)) ≡ filter_map f (numbers_to n) ++ cons_option (f (n + 1)) [] =
    rw add-one (filter_map-append f (numbers_to n) (suc n ∷ [])) in
    cc

-- ---- one observation

-- what stands is an observation, with the name of its place
record Stands (past : List Deed) (k : ℕ) (row : SightRow) : Type 0 where
  observation : Observation
  object : Label
  there : numbered (holdings past).observations k ≡ Some observation
  named : name_at (place_of_observation (holdings past) (links_of past) observation) ≡ Some object
  row_is : row ≡ sight_row k object observation.sighting

stands_under : (past : List Deed) (k : ℕ) (row : SightRow) (o : Observation) (object : Option Label) → numbered (holdings past).observations k ≡ Some o
    → name_at (place_of_observation (holdings past) (links_of past) o) ≡ object → option_and_then (λ object. option_map (sight_row k object) (Some o.sighting)) object ≡ Some row → Stands past k row
stands_under past k row o None there named is = absurd cc
stands_under past k row o (Some object) there named is =
    record { observation = o; object = object; there = there; named = named; row_is = cc }

stands : (past : List Deed) (k : ℕ) (row : SightRow) → sight_of past k ≡ Some row → Stands past k row
stands past k row is = by (numbered (holdings past).observations k) refl is
  where
    by : (o : Option Observation) → numbered (holdings past).observations k ≡ o
        → option_and_then (λ object. option_map (sight_row k object) (option_map (λ o. o.sighting) o)) (option_and_then name_at (option_map (place_of_observation (holdings past) (links_of past)) o)) ≡ Some row
        → Stands past k row
    by None there is = absurd cc
    by (Some o) there is = stands_under past k row o (name_at (place_of_observation (holdings past) (links_of past) o)) there refl is

pub id_is : (past : List Deed) (k : ℕ) (row : SightRow) → sight_of past k ≡ Some row → row.id ≡ k
id_is past k row is = let one = stands past k row is in ap (λ r. r.id) one.row_is

-- ---- ranges

-- what is known of each observation: it is on file, its station has a code, and its place an object's designation
pub record IsKnown (past : List Deed) (o : Observation) : Type 0 where
  pub filed : IsFiled o.sighting
  pub code : is_station_code (take o.sighting.station.len o.sighting.station.bytes) ≡ true
  pub place : IsNamed (place_of_observation (holdings past) (links_of past) o)

module _ (texts : TextLaws) where
  name_is : (place : Place) (object : Label) → IsNamed place → name_at place ≡ Some object → IsPrintedDesignation object ⊎ IsEmpty object
  name_is Retracted object is named = absurd cc
  name_is Isolated object is named = (let same : label_of [] ≡ object = cc in inr (subst IsEmpty same (of_label [] (omega arith))))
  name_is (Object p) object is named = (let same : printed_label p ≡ object = cc in inl (subst IsPrintedDesignation same (printed_is texts p is)))

  pub sight_is : (past : List Deed) (k : ℕ) (row : SightRow) → ((o : Observation) → numbered (holdings past).observations k ≡ Some o → IsKnown past o) → sight_of past k ≡ Some row → IsSightRow row
  sight_is past k row known is =
      let one = stands past k row is in
      let o = known one.observation one.there in
      let right = o.filed.sighting in
      subst IsSightRow (sym one.row_is) (record {
        object = name_is (place_of_observation (holdings past) (links_of past) one.observation) one.object o.place one.named;
        time = right.time;
        ra = (omega (arith, ints), omega (arith, ints, right.ra));
        dec = right.dec;
        station = (right.station, o.code);
      })
