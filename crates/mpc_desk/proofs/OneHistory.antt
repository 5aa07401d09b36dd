-- A file stands for one history, and one that stands for a legal history isn't damaged.
use Rattle.std.proofs.Common.{◌≡◌, ◌⊎◌, ℕ, List, [], ◌∷◌, ◌++◌, true, Option, Some, refl, sym, ap, subst, ◌∙◌, inl, inr, append_assoc}
use Rattle.std.specs.Prelude.{option_map}
use Rattle.obs_journal.specs.Parcels.{RawParcel}
use Rattle.obs_journal.specs.Files.{Spells}
use Rattle.obs_journal.specs.Chains.{IsChain}
use Rattle.act_bodies.specs.declared.key.Key.{Key}
use Rattle.act_model.specs.declared.entry.Entry.{Entry}
use Rattle.act_model.specs.declared.request.Verb.{Verb}
use Rattle.act_model.specs.declared.request.Verb.TheVariants.{Enrol, Station, Code, Submit80, SubmitPsv, Designate, Attribute, Release, Identify, Separate, Verdict, Number, Retract, Opening, Receipt, Tally, Object, Tracklet, Isolated, HalfMonth, Name, Catalogue, Unknown}
use Rattle.act_model.specs.Legal.{IsAdded, IsLegal}
use Rattle.act_model.specs.Requests.{is_act, verb_code}
use Rattle.desk_core.specs.Replaying.{act_with}
use Rattle.mpc_desk.specs.Files.{parcel_of, parcels_in, AreActs, Stands, StandsFirst}
use Rattle.mpc_desk.specs.Opening.{entry_in, StopsAt}

-- ---- the entry of a parcel

act_coded : (v : Verb) → is_act v ≡ true → act_with (verb_code v) ≡ Some v
act_coded Enrol act = refl
act_coded Station act = refl
act_coded Code act = refl
act_coded Submit80 act = refl
act_coded SubmitPsv act = refl
act_coded Designate act = refl
act_coded Attribute act = refl
act_coded Release act = refl
act_coded Identify act = refl
act_coded Separate act = refl
act_coded Verdict act = refl
act_coded Number act = refl
act_coded Retract act = refl
act_coded Opening act = refl
act_coded Receipt act = absurd cc
act_coded Tally act = absurd cc
act_coded Object act = absurd cc
act_coded Tracklet act = absurd cc
act_coded Isolated act = absurd cc
act_coded HalfMonth act = absurd cc
act_coded Name act = absurd cc
act_coded Catalogue act = absurd cc
act_coded Unknown act = absurd cc

entry_again : (e : Entry) → is_act e.verb ≡ true → entry_in (parcel_of e) ≡ Some e
entry_again e act = ap (λ (o : Option Verb). option_map (λ (v : Verb). record { caller = e.caller; number = e.number; moment = e.moment; verb = v; body = e.body }) o) (act_coded e.verb act)

same_entry : (e f : Entry) → is_act e.verb ≡ true → is_act f.verb ≡ true → parcel_of e ≡ parcel_of f → e ≡ f
same_entry e f first second is = let both : Some e ≡ Some f = sym (entry_again e first) ∙ ap entry_in is ∙ entry_again f second in cc

-- ---- lists that end alike

module _ {A : Type 0} where
  never_empty : (xs ys : List A) (y : A) → [] ≡ xs ++ y ∷ ys → ⊥
  never_empty [] ys y is = absurd cc
  never_empty (x ∷ xs) ys y is = absurd cc

  ends_alike : (xs ys : List A) (x y : A) → xs ++ x ∷ [] ≡ ys ++ y ∷ [] → (xs ≡ ys) × (x ≡ y)
  ends_alike [] [] x y is = (refl, cc)
  ends_alike [] (b ∷ ys) x y is = let tail : [] ≡ ys ++ y ∷ [] = cc in absurd (never_empty ys [] y tail)
  ends_alike (a ∷ xs) [] x y is = let tail : [] ≡ xs ++ x ∷ [] = cc in absurd (never_empty xs [] x tail)
  ends_alike (a ∷ xs) (b ∷ ys) x y is =
      let tail : xs ++ x ∷ [] ≡ ys ++ y ∷ [] = cc in
      let first : a ≡ b = cc in
      let rest = ends_alike xs ys x y tail in
      (ap (λ (l : List A). a ∷ l) rest.0 ∙ ap (λ (h : A). h ∷ ys) first, rest.1)

  -- a list is empty, or has a last item
  last_of : (xs : List A) → (xs ≡ []) ⊎ ((front : List A) × (last : A) × (xs ≡ front ++ last ∷ []))
  last_of [] = inl refl
  last_of (x ∷ xs) = by xs x (last_of xs)
    where
      by : (xs : List A) (x : A) → (xs ≡ []) ⊎ ((front : List A) × (last : A) × (xs ≡ front ++ last ∷ [])) → (x ∷ xs ≡ []) ⊎ ((front : List A) × (last : A) × (x ∷ xs ≡ front ++ last ∷ []))
      by xs x (inl none) = inr ([], x, ap (λ (l : List A). x ∷ l) none)
      by xs x (inr (front, last, is)) = inr (x ∷ front, last, ap (λ (l : List A). x ∷ l) is)

-- ---- one history

pub same_history : (h k : List Entry) → AreActs h → AreActs k → parcels_in h ≡ parcels_in k → h ≡ k
same_history [] [] first second is = refl
same_history [] (f ∷ k) first second is = absurd (never_empty (parcels_in k) [] (parcel_of f) is)
same_history (e ∷ h) [] first second is = absurd (never_empty (parcels_in h) [] (parcel_of e) (sym is))
same_history (e ∷ h) (f ∷ k) (act, first) (act', second) is =
    let ends = ends_alike (parcels_in h) (parcels_in k) (parcel_of e) (parcel_of f) is in
    ap (λ (x : Entry). x ∷ h) (same_entry e f act act' ends.1) ∙ ap (λ (l : List Entry). f ∷ l) (same_history h k first second ends.0)

pub one_first : (one_list : (file : List ℕ) (ps qs : List RawParcel) → Spells file ps → Spells file qs → ps ≡ qs) (file : List ℕ) (h k : List Entry) → StandsFirst file h → StandsFirst file k → h ≡ k
one_first one_list file h k first second = same_history h k first.acts second.acts (one_list file (parcels_in h) (parcels_in k) first.spelled second.spelled)

pub one_second : (one_chain : (file : List ℕ) (ps qs : List RawParcel) → IsChain file ps → IsChain file qs → ps ≡ qs) (file : List ℕ) (h k : List Entry) → Stands file h → Stands file k → h ≡ k
one_second one_chain file h k first second = same_history h k first.acts second.acts (one_chain file (parcels_in h) (parcels_in k) first.chained second.chained)

-- ---- no damage in a legal history

-- the entry of a parcel in a legal history is the one that the office made there
module _ (founder : Key) (before : List Entry) (p : RawParcel) (acts : AreActs before) (never : (e : Entry) → is_act e.verb ≡ true → parcel_of e ≡ p → IsAdded founder before e → ⊥) where
  last_one : (e : Entry) (past : List Entry) → is_act e.verb ≡ true → AreActs past → IsAdded founder past e → parcels_in past ++ parcel_of e ∷ [] ≡ parcels_in before ++ p ∷ [] → ⊥
  last_one e past act past_acts added is =
      let ends = ends_alike (parcels_in past) (parcels_in before) (parcel_of e) p is in
      never e act ends.1 (subst (λ (h : List Entry). IsAdded founder h e) (same_history past before past_acts acts ends.0) added)

  none_stops : (history : List Entry) (rest : List RawParcel) → AreActs history → IsLegal founder history → parcels_in history ≡ parcels_in before ++ p ∷ rest → ⊥
  none_stops [] rest acts' legal is = never_empty (parcels_in before) rest p is
  none_stops (e ∷ past) rest (act, past_acts) (added, legal) is = by (last_of rest) (none_stops past)
    where
      by : (rest ≡ []) ⊎ ((front : List RawParcel) × (last : RawParcel) × (rest ≡ front ++ last ∷ []))
          → ((rest : List RawParcel) → AreActs past → IsLegal founder past → parcels_in past ≡ parcels_in before ++ p ∷ rest → ⊥) → ⊥
      by (inl none) earlier = last_one e past act past_acts added (is ∙ ap (λ (l : List RawParcel). parcels_in before ++ p ∷ l) none)
      by (inr (front, last, ends)) earlier =
          let all : parcels_in past ++ parcel_of e ∷ [] ≡ (parcels_in before ++ p ∷ front) ++ last ∷ [] = is ∙ ap (λ (l : List RawParcel). parcels_in before ++ p ∷ l) ends ∙ sym (append_assoc (parcels_in before) (p ∷ front) (last ∷ [])) in
          earlier front past_acts legal (ends_alike (parcels_in past) (parcels_in before ++ p ∷ front) (parcel_of e) last all).0

-- so opening doesn't stop at an entry of a legal history
pub never_stops : (gate_after : List RawParcel → ℕ) (founder : Key) (parcels : List RawParcel) (offset : ℕ) (history : List Entry)
    → StopsAt gate_after founder parcels offset → IsLegal founder history → AreActs history → parcels_in history ≡ parcels → ⊥
never_stops gate_after founder parcels offset history stops legal acts is =
    none_stops founder stops.before stops.parcel stops.acts
    (λ e act same added. stops.not_next e (ap entry_in (sym same) ∙ entry_again e act) added)
    history stops.rest acts legal (is ∙ stops.parcels_are)
