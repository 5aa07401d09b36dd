-- Entries that are taken in again.
use Rattle.std.proofs.Common.{◌≡◌, ℕ, ℤ, ◌+◌, ◌<◌, List, [], ◌∷◌, ◌++◌, length, get_or, take, drop, Option, Some, None, Result, Ok, Err, refl, sym, ap, subst, suc, ◌∙◌, inl, arith}
use Rattle.std.specs.Prelude.{◌^◌, IfSome, OnOk}
use Rattle.std.proofs.lemmas.List.{take_more, take-append-drop, map-append}
use Rattle.std.proofs.Math.Seq.{drop-cons}
use Rattle.std.proofs.Math.Numerals.{add-one}
use Rattle.obs_journal.specs.declared.opening.Placed.{Placed}
use Rattle.obs_journal.specs.Chains.{IsChain, chained}
use Rattle.obs_journal.specs.Formats.{room_in, row_length_in}
use Rattle.obs_journal.specs.Journals.{JournalState, StandsFor}
use Rattle.obs_journal.specs.Opening.{parcels_of, placed_in}
use Rattle.obs_journal.specs.Parcels.{RawParcel}
use Rattle.act_bodies.specs.declared.key.Key.{Key}
use Rattle.act_model.specs.declared.deed.Deed.{Deed}
use Rattle.act_model.specs.declared.entry.Entry.{Entry}
use Rattle.act_model.specs.Requests.{verb_code}
use Rattle.mpc_desk.specs.Desks.{RestsAt}
use Rattle.mpc_desk.specs.Files.{parcel_of, parcels_in, AreActs, Stands}
use Rattle.mpc_desk.specs.Opening.{gate_in_second}
use Rattle.comet_model.specs.Legal.{IsAdded, IsLegal}
use Rattle.comet_model.specs.Register.{comets}
use Rattle.comet_core.specs.Register.{RegisterValue, IsOver}
use Rattle.comet_core.specs.Replaying.{HasFields}
use Rattle.comet_desk.specs.Desks.{IsDesk, state_of}
use Rattle.comet_desk.specs.Opening.{ComesNext, IsNotNext, StopsIn, StopsAt}
use Rattle.comet_desk.proofs.Mended.{used_is, row_stands}

pub on_ok : {A E : Type 0} (r : Result A E) (P Q : Type 0) → (P → Q) → OnOk r P → OnOk r Q
on_ok (Ok a) P Q follows holds = follows holds
on_ok (Err e) P Q follows holds = tt

pub if_some : (reads : Option (List ℕ)) (P Q : List ℕ → Type 0) → ((file : List ℕ) → P file → Q file) → IfSome reads P → IfSome reads Q
if_some None P Q follows holds = tt
if_some (Some file) P Q follows holds = follows file holds

-- ---- the entry of a parcel

-- the parcel is of these fields
pub record IsOf (p : RawParcel) (caller number : ℕ) (moment : ℤ) (code : ℕ) (body : List ℕ) : Type 0 where
  pub caller_is : caller ≡ p.caller
  pub number_is : number ≡ p.number
  pub moment_is : moment ≡ p.moment
  pub code_is : code ≡ p.verb
  pub body_is : body ≡ p.body

same_parcel : (a a' n n' : ℕ) (m m' : ℤ) (v v' : ℕ) (b b' : List ℕ) → a ≡ a' → n ≡ n' → m ≡ m' → v ≡ v' → b ≡ b'
    → ◌≡◌ {A = RawParcel} (record { caller = a; number = n; moment = m; verb = v; body = b }) (record { caller = a'; number = n'; moment = m'; verb = v'; body = b' })
same_parcel a a' n n' m m' v v' b b' caller number moment verb body = cc

module _ (founder : Key) (desk : List Deed) (past : List Entry) (p : RawParcel) (caller number : ℕ) (moment : ℤ) (code : ℕ) (body : List ℕ) (is : IsOf p caller number moment code body) where
  pub comes_next : (now : List Entry) → (entry : Entry) × HasFields caller number moment code body entry × IsAdded founder desk past entry × (now ≡ entry ∷ past) → ComesNext founder desk past p now
  comes_next now (entry, has, added, now_is) = record {
    entry = entry;
    parcel_is = same_parcel entry.caller p.caller entry.number p.number entry.moment p.moment (verb_code entry.verb) p.verb entry.body p.body (has.caller_is ∙ is.caller_is) (has.number_is ∙ is.number_is) (has.moment_is ∙ is.moment_is) (has.code_is ∙ is.code_is) (has.body_is ∙ is.body_is);
    added = added;
    now_is = now_is;
  }

  pub not_next : ((entry : Entry) → HasFields caller number moment code body entry → IsAdded founder desk past entry → ⊥) → IsNotNext founder desk past p
  not_next never entry same added =
      never entry
      (record {
        caller_is = ap (λ (q : RawParcel). q.caller) same ∙ sym is.caller_is;
        number_is = ap (λ (q : RawParcel). q.number) same ∙ sym is.number_is;
        moment_is = ap (λ (q : RawParcel). q.moment) same ∙ sym is.moment_is;
        code_is = ap (λ (q : RawParcel). q.verb) same ∙ sym is.code_is;
        body_is = ap (λ (q : RawParcel). q.body) same ∙ sym is.body_is;
      })
      added

-- ---- the parcels one after the other

parcels_of-more : (places : List Placed) (i : ℕ) (p : Placed) → i < length places → parcels_of (take (i + 1) places) ≡ parcels_of (take i places) ++ (get_or places i p).parcel ∷ []
parcels_of-more places i p within = ap parcels_of (take_more places i p within) ∙ map-append (λ (x : Placed). x.parcel) (take i places) (get_or places i p ∷ [])

-- one more entry was taken in
pub taken_more : (founder : Key) (desk : List Deed) (past now : List Entry) (places : List Placed) (i : ℕ) (p : Placed) → i < length places → p ≡ get_or places i p → ComesNext founder desk past p.parcel now → parcels_in past ≡ parcels_of (take i places)
    → parcels_in now ≡ parcels_of (take (i + 1) places)
taken_more founder desk past now places i p within here next before =
    ap parcels_in next.now_is ∙ ap (λ (ps : List RawParcel). ps ++ parcel_of next.entry ∷ []) before ∙ ap (λ (r : RawParcel). parcels_of (take i places) ++ r ∷ []) (next.parcel_is ∙ ap (λ (x : Placed). x.parcel) here) ∙ sym (parcels_of-more places i p within)

places_split : (places : List Placed) (i : ℕ) (p : Placed) → i < length places → p ≡ get_or places i p → places ≡ take i places ++ (p ∷ drop (i + 1) places)
places_split places i p within here =
    let next : drop i places ≡ p ∷ drop (i + 1) places = drop-cons places i p within ∙ rw add-one (ap (λ (g : Placed). g ∷ drop (suc i) places) (sym here)) in
    sym (take-append-drop i places) ∙ ap (λ (rest : List Placed). take i places ++ rest) next

-- an entry that isn't legal
pub stops_in : (founder : Key) (desk : List Deed) (past : List Entry) (places : List Placed) (i : ℕ) (p : Placed) → i < length places → p ≡ get_or places i p → parcels_in past ≡ parcels_of (take i places) → IsLegal founder desk past
    → IsNotNext founder desk past p.parcel → StopsIn founder desk places p.offset
stops_in founder desk past places i p within here taken legal not_next = record {
  before = past;
  front = take i places;
  placed = p;
  rest = drop (i + 1) places;
  places_are = places_split places i p within here;
  front_is = sym taken;
  legal = legal;
  not_next = not_next;
  offset_is = refl;
}

-- ---- the gate at which an entry isn't legal

offset_at : (front : List Placed) (p : Placed) (back : List Placed) (o : ℕ) → front ++ p ∷ back ≡ placed_in chained o (parcels_of (front ++ p ∷ back)) → p.offset ≡ o + row_length_in chained (parcels_of front)
offset_at [] p back o is =
    let head : p ≡ record { offset = o; parcel = p.parcel } = cc in
    let same = ap (λ (x : Placed). x.offset) head in
    omega (arith, same)
offset_at (f ∷ front) p back o is =
    let rest : front ++ p ∷ back ≡ placed_in chained (o + room_in chained f.parcel) (parcels_of (front ++ p ∷ back)) = cc in
    let next = offset_at front p back (o + room_in chained f.parcel) rest in
    omega (arith, next)

pub stops_at : (founder : Key) (desk : List Deed) (places : List Placed) (offset : ℕ) → places ≡ placed_in chained 1 (parcels_of places) → StopsIn founder desk places offset → StopsAt founder desk (parcels_of places) offset
stops_at founder desk places offset is_placed stops =
    let all : parcels_of places ≡ parcels_of stops.front ++ stops.placed.parcel ∷ parcels_of stops.rest = ap parcels_of stops.places_are ∙ map-append (λ (x : Placed). x.parcel) stops.front (stops.placed ∷ stops.rest) in
    let at : stops.placed.offset ≡ 1 + row_length_in chained (parcels_of stops.front) = offset_at stops.front stops.placed stops.rest 1 (subst (λ (x : List Placed). x ≡ placed_in chained 1 (parcels_of x)) stops.places_are is_placed) in
    record {
      before = stops.before;
      parcel = stops.placed.parcel;
      rest = parcels_of stops.rest;
      parcels_are = all ∙ ap (λ (ps : List RawParcel). ps ++ stops.placed.parcel ∷ parcels_of stops.rest) stops.front_is;
      legal = stops.legal;
      not_next = stops.not_next;
      offset_is = stops.offset_is ∙ at ∙ ap gate_in_second stops.front_is;
    }

-- ---- what was opened

-- what was taken in is a register on its disk
pub opened_desk : {D : Type 0} (leaves : D → List ℕ → Type 0) (register : RegisterValue) (journal : JournalState D) (parcels : List RawParcel) → StandsFor leaves journal parcels None → journal.reached.position < 2 ^ 64 → parcels_in register.entries ≡ parcels → AreActs register.entries
    → IsDesk leaves register journal None
opened_desk leaves register journal parcels stands fits taken acts = record {
  stands = subst (λ (ps : List RawParcel). StandsFor leaves journal ps None) (sym taken) stands;
  space = let bytes = used_is register.entries in let same = ap (λ (ps : List RawParcel). row_length_in chained ps) taken in let at = ap (λ r. r.position) stands.reached in omega (arith, bytes, same, at, fits);
  acts = acts;
  next = tt;
}

pub stands_as : (reads : Option (List ℕ)) (entries : List Entry) (parcels : List RawParcel) → parcels_in entries ≡ parcels → AreActs entries → IfSome reads (λ file. IsChain file parcels) → IfSome reads (λ file. Stands file entries)
stands_as reads entries parcels taken acts chain =
    if_some reads (λ file. IsChain file parcels) (λ file. Stands file entries)
    (λ file row. record { chained = subst (IsChain file) (sym taken) row; acts = acts })
    chain

-- and each image of its disk is at rest
pub rests_opened : {D : Type 0} (leaves : D → List ℕ → Type 0) (register : RegisterValue) (journal : JournalState D) → IsDesk leaves register journal None → (image : List ℕ) → leaves journal.disk image → RestsAt (state_of register None) image
rests_opened leaves register journal kept image left = inl (row_stands image register.entries kept.acts (kept.stands.images image left))

-- without entries it is one of every office
pub over_none : (desk : List Deed) (register : RegisterValue) → register.entries ≡ [] → register.comets ≡ [] → IsOver desk register
over_none desk register none unnamed = record {
  legal = subst (IsLegal register.founder desk) (sym none) tt;
  comets = unnamed ∙ ap (comets desk) (sym none);
}
