-- What opening finds.
use Rattle.std.proofs.Common.{◌≡◌, ◌≢◌, ℕ, ◌+◌, ◌<◌, List, [], ◌∷◌, ◌++◌, Option, Some, None, refl, sym, ap, subst, ◌∙◌, inl, arith}
use Rattle.std.specs.Prelude.{◌^◌, IfSome, IsSome}
use Rattle.std.proofs.lemmas.List.{map-append}
use Rattle.obs_journal.specs.declared.opening.Placed.{Placed}
use Rattle.obs_journal.specs.Parcels.{RawParcel, room}
use Rattle.obs_journal.specs.Formats.{room_in, row_length_in}
use Rattle.obs_journal.specs.Files.{IsFresh, Spells, row_length}
use Rattle.obs_journal.specs.Chains.{chained}
use Rattle.obs_journal.specs.Journals.{JournalState, StandsFor}
use Rattle.obs_journal.specs.Opening.{parcels_of, placed_in, placed_from}
use Rattle.act_bodies.specs.declared.key.Key.{Key}
use Rattle.act_model.specs.Legal.{IsLegal}
use Rattle.desk_core.specs.Office.{Office}
use Rattle.mpc_desk.specs.Files.{parcels_in, AreActs}
use Rattle.mpc_desk.specs.Desks.{IsDesk, RestsAt, state_of}
use Rattle.mpc_desk.specs.Opening.{StopsIn, StopsAt}
use Rattle.mpc_desk.proofs.FileLemmas.{used_is, row_stands}

-- what was taken in is a desk
pub opened_desk : {D : Type 0} (leaves : D → List ℕ → Type 0) (core : Office) (journal : JournalState D) (parcels : List RawParcel) → StandsFor leaves journal parcels None → journal.reached.position < 2 ^ 64 → parcels_in core.history ≡ parcels → IsLegal core.founder core.history → AreActs core.history
    → IsDesk leaves core journal None
opened_desk leaves core journal parcels stands fits taken legal acts = record {
  stands = subst (λ (ps : List RawParcel). StandsFor leaves journal ps None) (sym taken) stands;
  space = let bytes = used_is core.history in let same = ap (λ (ps : List RawParcel). row_length_in chained ps) taken in let at = ap (λ r. r.position) stands.reached in omega (arith, bytes, same, at, fits);
  legal = (legal, tt);
  acts = acts;
  next = tt;
}

-- and it is at rest
pub rests_opened : {D : Type 0} (leaves : D → List ℕ → Type 0) (core : Office) (journal : JournalState D) → IsDesk leaves core journal None → (image : List ℕ) → leaves journal.disk image → RestsAt (state_of core None) image
rests_opened leaves core journal desk image left = inl (row_stands image core.history desk.acts (desk.stands.images image left))

pub if_some : (reads : Option (List ℕ)) (P Q : List ℕ → Type 0) → ((file : List ℕ) → P file → Q file) → IfSome reads P → IfSome reads Q
if_some None P Q follows holds = tt
if_some (Some file) P Q follows holds = follows file holds

pub at_file : (reads : Option (List ℕ)) (P : List ℕ → Type 0) (file : List ℕ) → reads ≡ Some file → IfSome reads P → P file
at_file reads P file is holds = subst (λ (o : Option (List ℕ)). IfSome o P) is holds

module _ (one_list : (file : List ℕ) (ps qs : List RawParcel) → Spells file ps → Spells file qs → ps ≡ qs) where
  no_places : (places : List Placed) → [] ≡ parcels_of places → places ≡ []
  no_places [] is = refl
  no_places (p ∷ places) is = absurd cc

  -- a file with parcels isn't fresh
  not_fresh : (places : List Placed) (file : List ℕ) → places ≢ [] → Spells file (parcels_of places) → IsFresh file → ⊥
  not_fresh places file some spelled fresh = some (no_places places (one_list file [] (parcels_of places) (inl (fresh, refl)) spelled))

  -- so it isn't written
  pub kept_if : (reads : Option (List ℕ)) (places : List Placed) (R : Type 0) → places ≢ [] → IsSome reads → IfSome reads (λ file. Spells file (parcels_of places)) → IfSome reads (λ file. (IsFresh file → ⊥) → R) → R
  kept_if None places R some known spelled kept = absurd cc
  kept_if (Some file) places R some known spelled kept = kept (not_fresh places file some spelled)

-- ---- the gate at which an entry isn't legal

-- a row of placed parcels: how each is placed, the room that it takes, and how many bytes they take together
pub record Placing (placed : ℕ → List RawParcel → List Placed) (room : RawParcel → ℕ) (taken : List RawParcel → ℕ) : Type 0 where
  pub first : (offset : ℕ) (parcel : RawParcel) (parcels : List RawParcel) → placed offset (parcel ∷ parcels) ≡ record { offset = offset; parcel = parcel } ∷ placed (offset + room parcel) parcels
  pub none : taken [] ≡ 0
  pub more : (parcel : RawParcel) (parcels : List RawParcel) → taken (parcel ∷ parcels) ≡ room parcel + taken parcels

module _ (placed : ℕ → List RawParcel → List Placed) (room : RawParcel → ℕ) (taken : List RawParcel → ℕ) (placing : Placing placed room taken) where
  offset_at : (front : List Placed) (p : Placed) (back : List Placed) (o : ℕ) → front ++ p ∷ back ≡ placed o (parcels_of (front ++ p ∷ back)) → p.offset ≡ o + taken (parcels_of front)
  offset_at [] p back o is =
      let first : p ∷ back ≡ record { offset = o; parcel = p.parcel } ∷ placed (o + room p.parcel) (parcels_of back) = is ∙ placing.first o p.parcel (parcels_of back) in
      let head : p ≡ record { offset = o; parcel = p.parcel } = cc in
      let same = ap (λ (x : Placed). x.offset) head in
      let none = placing.none in omega (arith, same, none)
  offset_at (f ∷ front) p back o is =
      let first : f ∷ (front ++ p ∷ back) ≡ record { offset = o; parcel = f.parcel } ∷ placed (o + room f.parcel) (parcels_of (front ++ p ∷ back)) = is ∙ placing.first o f.parcel (parcels_of (front ++ p ∷ back)) in
      let rest : front ++ p ∷ back ≡ placed (o + room f.parcel) (parcels_of (front ++ p ∷ back)) = cc in
      let next = offset_at front p back (o + room f.parcel) rest in
      let more = placing.more f.parcel (parcels_of front) in omega (arith, next, more)

  pub stops_at : (start : ℕ) (gate_after : List RawParcel → ℕ) → ((ps : List RawParcel) → gate_after ps ≡ start + taken ps) → (founder : Key) (places : List Placed) (offset : ℕ) → places ≡ placed start (parcels_of places) → StopsIn founder places offset
      → StopsAt gate_after founder (parcels_of places) offset
  stops_at start gate_after gate founder places offset is_placed stops =
      let all : parcels_of places ≡ parcels_of stops.front ++ stops.placed.parcel ∷ parcels_of stops.rest = ap parcels_of stops.places_are ∙ map-append (λ (x : Placed). x.parcel) stops.front (stops.placed ∷ stops.rest) in
      let at : stops.placed.offset ≡ start + taken (parcels_of stops.front) = offset_at stops.front stops.placed stops.rest start (subst (λ (x : List Placed). x ≡ placed start (parcels_of x)) stops.places_are is_placed) in
      record {
        before = stops.before;
        parcel = stops.placed.parcel;
        rest = parcels_of stops.rest;
        parcels_are = all ∙ ap (λ (ps : List RawParcel). ps ++ stops.placed.parcel ∷ parcels_of stops.rest) stops.front_is;
        legal = stops.legal;
        acts = stops.acts;
        not_next = stops.not_next;
        offset_is = stops.offset_is ∙ at ∙ ap (λ (ps : List RawParcel). start + taken ps) stops.front_is ∙ sym (gate (parcels_in stops.before));
      }

pub first_placing : Placing placed_from room row_length
first_placing = record { first = λ offset parcel parcels. refl; none = refl; more = λ parcel parcels. refl }

pub second_placing : Placing (placed_in chained) (room_in chained) (row_length_in chained)
second_placing = record { first = λ offset parcel parcels. refl; none = refl; more = λ parcel parcels. refl }
