-- A file holds one list of entries, and one that holds a legal list isn't damaged.
use Rattle.std.proofs.Common.{◌≡◌, ◌⊎◌, ℕ, ℤ, List, [], ◌∷◌, ◌++◌, refl, sym, ap, subst, ◌∙◌, inl, inr, ⊎_elim, append_assoc}
use Rattle.obs_journal.specs.Chains.{IsInForce, IsChain, IsBrokenAt}
use Rattle.obs_journal.specs.Moves.{IsIdle}
use Rattle.obs_journal.specs.Parcels.{RawParcel}
use Rattle.act_bodies.specs.declared.key.Key.{Key}
use Rattle.act_model.specs.declared.deed.Deed.{Deed}
use Rattle.act_model.specs.declared.entry.Entry.{Entry}
use Rattle.act_model.specs.declared.request.Verb.{Verb}
use Rattle.mpc_desk.specs.Files.{parcel_of, parcels_in, Stands}
use Rattle.mpc_desk.specs.PairLaws.{force_or_idle}
use Rattle.comet_model.specs.Legal.{IsAdded, IsLegal}
use Rattle.comet_desk.specs.Files.{HoldsEntries}
use Rattle.comet_desk.specs.Opening.{StopsAt, IsDamaged}
use Rattle.comet_desk.proofs.Entries.{IsOfAct, added_act}

-- ---- lists that end alike

module _ {A : Type 0} where
  never_empty : (xs ys : List A) (y : A) → [] ≡ xs ++ y ∷ ys → ⊥
  never_empty [] ys y is = absurd cc
  never_empty (x ∷ xs) ys y is = absurd cc

  ends_alike : (xs ys : List A) (x y : A) → xs ++ x ∷ [] ≡ ys ++ y ∷ [] → (xs ≡ ys) × (x ≡ y)
  ends_alike [] [] x y is = (refl, cc)
  ends_alike [] (b ∷ ys) x y is = let tail : [] ≡ ys ++ y ∷ [] = cc in absurd (never_empty ys [] y tail)
  ends_alike (a ∷ xs) [] x y is = let tail : [] ≡ xs ++ x ∷ [] = cc in absurd (never_empty xs [] x tail)
  ends_alike (a ∷ xs) (b ∷ ys) x y is =
      let tail : xs ++ x ∷ [] ≡ ys ++ y ∷ [] = cc in
      let first : a ≡ b = cc in
      let rest = ends_alike xs ys x y tail in
      (ap (λ (l : List A). a ∷ l) rest.0 ∙ ap (λ (h : A). h ∷ ys) first, rest.1)

  -- a list is empty, or has a last item
  last_of : (xs : List A) → (xs ≡ []) ⊎ ((front : List A) × (last : A) × (xs ≡ front ++ last ∷ []))
  last_of [] = inl refl
  last_of (x ∷ xs) = by xs x (last_of xs)
    where
      by : (xs : List A) (x : A) → (xs ≡ []) ⊎ ((front : List A) × (last : A) × (xs ≡ front ++ last ∷ [])) → (x ∷ xs ≡ []) ⊎ ((front : List A) × (last : A) × (x ∷ xs ≡ front ++ last ∷ []))
      by xs x (inl none) = inr ([], x, ap (λ (l : List A). x ∷ l) none)
      by xs x (inr (front, last, is)) = inr (x ∷ front, last, ap (λ (l : List A). x ∷ l) is)

-- ---- the entry of a parcel

entry_same : (a a' n n' : ℕ) (m m' : ℤ) (v v' : Verb) (b b' : List ℕ) → a ≡ a' → n ≡ n' → m ≡ m' → v ≡ v' → b ≡ b'
    → ◌≡◌ {A = Entry} (record { caller = a; number = n; moment = m; verb = v; body = b }) (record { caller = a'; number = n'; moment = m'; verb = v'; body = b' })
entry_same a a' n n' m m' v v' b b' caller number moment verb body = cc

same_entry : (e f : Entry) → IsOfAct e → IsOfAct f → parcel_of e ≡ parcel_of f → e ≡ f
same_entry e f first second is =
    entry_same e.caller f.caller e.number f.number e.moment f.moment e.verb f.verb e.body f.body (ap (λ (p : RawParcel). p.caller) is) (ap (λ (p : RawParcel). p.number) is) (ap (λ (p : RawParcel). p.moment) is) (first.verb ∙ sym second.verb) (ap (λ (p : RawParcel). p.body) is)

module _ (founder : Key) (desk : List Deed) where
  same_entries : (h k : List Entry) → IsLegal founder desk h → IsLegal founder desk k → parcels_in h ≡ parcels_in k → h ≡ k
  same_entries [] [] first second is = refl
  same_entries [] (f ∷ k) first second is = absurd (never_empty (parcels_in k) [] (parcel_of f) is)
  same_entries (e ∷ h) [] first second is = absurd (never_empty (parcels_in h) [] (parcel_of e) (sym is))
  same_entries (e ∷ h) (f ∷ k) (added, first) (added', second) is =
      let ends = ends_alike (parcels_in h) (parcels_in k) (parcel_of e) (parcel_of f) is in
      ap (λ (x : Entry). x ∷ h) (same_entry e f (added_act founder desk h e added) (added_act founder desk k f added') ends.1) ∙ ap (λ (l : List Entry). f ∷ l) (same_entries h k first second ends.0)

  -- ---- no damage in a legal list

  -- the entry of a parcel in a legal list is the one that the register made there
  module _ (before : List Entry) (p : RawParcel) (legal_before : IsLegal founder desk before) (never : (e : Entry) → parcel_of e ≡ p → IsAdded founder desk before e → ⊥) where
    last_one : (e : Entry) (past : List Entry) → IsLegal founder desk past → IsAdded founder desk past e → parcels_in past ++ parcel_of e ∷ [] ≡ parcels_in before ++ p ∷ [] → ⊥
    last_one e past legal added is =
        let ends = ends_alike (parcels_in past) (parcels_in before) (parcel_of e) p is in
        never e ends.1 (subst (λ (h : List Entry). IsAdded founder desk h e) (same_entries past before legal legal_before ends.0) added)

    none_stops : (entries : List Entry) (rest : List RawParcel) → IsLegal founder desk entries → parcels_in entries ≡ parcels_in before ++ p ∷ rest → ⊥
    none_stops [] rest legal is = never_empty (parcels_in before) rest p is
    none_stops (e ∷ past) rest (added, legal) is = by (last_of rest) (none_stops past)
      where
        by : (rest ≡ []) ⊎ ((front : List RawParcel) × (last : RawParcel) × (rest ≡ front ++ last ∷ []))
            → ((rest : List RawParcel) → IsLegal founder desk past → parcels_in past ≡ parcels_in before ++ p ∷ rest → ⊥) → ⊥
        by (inl none) earlier = last_one e past legal added (is ∙ ap (λ (l : List RawParcel). parcels_in before ++ p ∷ l) none)
        by (inr (front, last, ends)) earlier =
            let all : parcels_in past ++ parcel_of e ∷ [] ≡ (parcels_in before ++ p ∷ front) ++ last ∷ [] = is ∙ ap (λ (l : List RawParcel). parcels_in before ++ p ∷ l) ends ∙ sym (append_assoc (parcels_in before) (p ∷ front) (last ∷ [])) in
            earlier front legal (ends_alike (parcels_in past) (parcels_in before ++ p ∷ front) (parcel_of e) last all).0

  -- so opening doesn't stop at an entry of a legal list
  never_stops : (parcels : List RawParcel) (offset : ℕ) (entries : List Entry) → StopsAt founder desk parcels offset → IsLegal founder desk entries → parcels_in entries ≡ parcels → ⊥
  never_stops parcels offset entries stops legal is = none_stops stops.before stops.parcel stops.legal stops.not_next entries stops.rest legal (is ∙ stops.parcels_are)

  pub damaged_force : (in_force : (file : List ℕ) (ps : List RawParcel) → IsChain file ps → IsInForce file) → (broken_force : (file : List ℕ) (offset : ℕ) → IsBrokenAt file offset → IsInForce file)
      → (file : List ℕ) (offset : ℕ) → IsDamaged founder desk file offset → IsInForce file
  damaged_force in_force broken_force file offset damaged = ⊎_elim (λ broken. broken_force file offset broken) (λ stops. in_force file stops.0 stops.1) damaged

  pub never_damaged : (one : (file : List ℕ) (ps qs : List RawParcel) → IsChain file ps → IsChain file qs → ps ≡ qs) → (no_list : (file : List ℕ) (offset : ℕ) (ps : List RawParcel) → IsBrokenAt file offset → IsChain file ps → ⊥)
      → (file : List ℕ) (offset : ℕ) (entries : List Entry) → IsInForce file → IsDamaged founder desk file offset → IsLegal founder desk entries → HoldsEntries file entries → ⊥
  never_damaged one no_list file offset entries force damaged legal holds =
      let stands : Stands file entries = holds.in_force force in
      ⊎_elim
      (λ broken. no_list file offset (parcels_in entries) broken stands.chained)
      (λ stops. never_stops stops.0 offset entries stops.2 legal (one file (parcels_in entries) stops.0 stands.chained stops.1))
      damaged

-- ---- one list

pub one_list : (one : (file : List ℕ) (h k : List Entry) → Stands file h → Stands file k → h ≡ k) → (file : List ℕ) (h k : List Entry) → HoldsEntries file h → HoldsEntries file k → h ≡ k
one_list one file h k first second =
    ⊎_elim
    (λ force. one file h k (first.in_force force) (second.in_force force))
    (λ idle. first.idle idle ∙ sym (second.idle idle))
    (force_or_idle file)

pub holds_stands : (in_force : (file : List ℕ) (ps : List RawParcel) → IsChain file ps → IsInForce file) → (file : List ℕ) (entries : List Entry) → Stands file entries → HoldsEntries file entries
holds_stands in_force file entries stands = record { in_force = λ _. stands; idle = λ idle. absurd (idle (in_force file (parcels_in entries) stands.chained)) }

pub holds_none : (file : List ℕ) → IsIdle file → HoldsEntries file []
holds_none file idle = record { in_force = λ force. absurd (idle force); idle = λ _. refl }
