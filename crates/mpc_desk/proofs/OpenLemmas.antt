-- Entries that are taken in again.
use Rattle.std.proofs.Common.{◌≡◌, ℕ, ℤ, ◌+◌, ◌<◌, Bool, true, false, cond, List, [], ◌∷◌, ◌++◌, length, get_or, take, drop, Option, Some, None, Result, Ok, Err, refl, sym, ap, subst, suc, ◌∙◌, arith}
use Rattle.std.specs.Prelude.{◌==◌, IsSomeAnd, OnOk, option_map}
use Rattle.std.proofs.lemmas.Bool.Decides.{nat_tests}
use Rattle.std.proofs.lemmas.List.{take_more, take-append-drop, map-append}
use Rattle.std.proofs.Math.Seq.{drop-cons}
use Rattle.std.proofs.Math.Numerals.{add-one}
use Rattle.std.specs.Iterator.{Yields}
use Rattle.std.specs.Vec.Iter.{into_iter_items, into_iter_steps}
use Rattle.std.specs.declared.vec.IntoIter.{IntoIter}
use Rattle.std.proofs.IntoIterSteps.{All-taken}
use Rattle.obs_journal.specs.declared.opening.Placed.{Placed}
use Rattle.obs_journal.specs.Parcels.{RawParcel}
use Rattle.obs_journal.specs.Opening.{parcels_of}
use Rattle.act_bodies.specs.declared.key.Key.{Key}
use Rattle.act_model.specs.declared.entry.Entry.{Entry}
use Rattle.act_model.specs.declared.request.Verb.{Verb}
use Rattle.act_model.specs.declared.request.Verb.TheVariants.{Enrol, Station, Code, Submit80, SubmitPsv, Designate, Attribute, Release, Identify, Separate, Verdict, Number, Retract, Opening}
use Rattle.act_model.specs.Legal.{IsAdded, IsLegal}
use Rattle.act_model.specs.Requests.{is_act, verb_code}
use Rattle.desk_core.specs.Replaying.{act_with, entry_of}
use Rattle.mpc_desk.specs.Files.{parcel_of, parcels_in, AreActs}
use Rattle.mpc_desk.specs.Opening.{entry_in, ComesNext, IsNotNext, StopsIn}

-- ---- the verb of a number

pick : (code n : ℕ) (w v : Verb) (rest : Option Verb) (b : Bool) → (code == n) ≡ b → verb_code w ≡ n → is_act w ≡ true → (rest ≡ Some v → (verb_code v ≡ code) × (is_act v ≡ true)) → cond b (Some w) rest ≡ Some v
    → (verb_code v ≡ code) × (is_act v ≡ true)
pick code n w v rest true test numbered act next is =
    let same : w ≡ v = cc in
    let equal : code ≡ n = grind (arith, nat_tests) in
    (subst (λ (x : Verb). verb_code x ≡ code) same (numbered ∙ sym equal), subst (λ (x : Verb). is_act x ≡ true) same act)
pick code n w v rest false test numbered act next is = next is

pub with_code : (code : ℕ) (v : Verb) → act_with code ≡ Some v → (verb_code v ≡ code) × (is_act v ≡ true)
with_code code v =
    pick code 1 Enrol v _ (code == 1) refl refl refl
    (pick code 2 Station v _ (code == 2) refl refl refl
    (pick code 3 Code v _ (code == 3) refl refl refl
    (pick code 4 Submit80 v _ (code == 4) refl refl refl
    (pick code 5 SubmitPsv v _ (code == 5) refl refl refl
    (pick code 6 Designate v _ (code == 6) refl refl refl
    (pick code 7 Attribute v _ (code == 7) refl refl refl
    (pick code 8 Release v _ (code == 8) refl refl refl
    (pick code 9 Identify v _ (code == 9) refl refl refl
    (pick code 10 Separate v _ (code == 10) refl refl refl
    (pick code 11 Verdict v _ (code == 11) refl refl refl
    (pick code 12 Number v _ (code == 12) refl refl refl
    (pick code 13 Retract v _ (code == 13) refl refl refl
    (pick code 14 Opening v _ (code == 14) refl refl refl (λ none. absurd cc))))))))))))))

module _ (founder : Key) (past : List Entry) (p : RawParcel) (now : List Entry) where
  abbrev entry_with : Verb → Entry
  entry_with v = record { caller = p.caller; number = p.number; moment = p.moment; verb = v; body = p.body }

  by_verb : (o : Option Verb) → act_with p.verb ≡ o → IsSomeAnd (option_map entry_with o) (λ entry. IsAdded founder past entry × (now ≡ entry ∷ past)) → ComesNext founder past p now
  by_verb None is none = absurd none
  by_verb (Some v) is taken =
      let (numbered, act) = with_code p.verb v is in
      record {
        entry = entry_with v;
        parcel_is = ap (λ (n : ℕ). record { caller = p.caller; number = p.number; moment = p.moment; verb = n; body = p.body }) numbered;
        act = act;
        added = taken.0;
        now_is = taken.1;
      }

  pub comes_next : IsSomeAnd (entry_in p) (λ entry. IsAdded founder past entry × (now ≡ entry ∷ past)) → ComesNext founder past p now
  comes_next taken = by_verb (act_with p.verb) refl taken

pub on_ok : {A E : Type 0} (r : Result A E) (P Q : Type 0) → (P → Q) → OnOk r P → OnOk r Q
on_ok (Ok a) P Q follows holds = follows holds
on_ok (Err e) P Q follows holds = tt

pub entry_same : (a b : ℕ) (m : ℤ) (v : ℕ) (body : List ℕ) (p : RawParcel) → a ≡ p.caller → b ≡ p.number → m ≡ p.moment → v ≡ p.verb → body ≡ p.body → entry_of a b m v body ≡ entry_in p
entry_same a b m v body p caller number moment verb bytes =
    ap (λ (x : ℕ). entry_of x b m v body) caller ∙ ap (λ (x : ℕ). entry_of p.caller x m v body) number ∙ ap (λ (x : ℤ). entry_of p.caller p.number x v body) moment
    ∙ ap (λ (x : ℕ). entry_of p.caller p.number p.moment x body) verb ∙ ap (λ (x : List ℕ). entry_of p.caller p.number p.moment p.verb x) bytes

-- ---- the parcels one after the other

pub parcels_of-more : (front : List Placed) (p : Placed) → parcels_of (front ++ p ∷ []) ≡ parcels_of front ++ p.parcel ∷ []
parcels_of-more front p = map-append (λ (x : Placed). x.parcel) front (p ∷ [])

-- one more entry was taken in
pub taken_more : (founder : Key) (past now : List Entry) (front : List Placed) (p : Placed) → ComesNext founder past p.parcel now → parcels_in past ≡ parcels_of front → parcels_in now ≡ parcels_of (front ++ p ∷ [])
taken_more founder past now front p next before =
    ap parcels_in next.now_is ∙ ap (λ (ps : List RawParcel). ps ++ parcel_of next.entry ∷ []) before ∙ ap (λ (r : RawParcel). parcels_of front ++ r ∷ []) next.parcel_is ∙ sym (parcels_of-more front p)

pub take_one_more : (places : List Placed) (i : ℕ) (p : Placed) → i < length places → p ≡ get_or places i p → take (i + 1) places ≡ take i places ++ p ∷ []
take_one_more places i p within here = take_more places i p within ∙ ap (λ (x : Placed). take i places ++ x ∷ []) (sym here)

pub places_split : (places : List Placed) (i : ℕ) (p : Placed) → i < length places → p ≡ get_or places i p → places ≡ take i places ++ (p ∷ drop (i + 1) places)
places_split places i p within here =
    let next : drop i places ≡ p ∷ drop (i + 1) places = drop-cons places i p within ∙ rw add-one (ap (λ (g : Placed). g ∷ drop (suc i) places) (sym here)) in
    sym (take-append-drop i places) ∙ ap (λ (rest : List Placed). take i places ++ rest) next

-- an entry that isn't legal
pub stops_in : (founder : Key) (past : List Entry) (places front rest : List Placed) (p : Placed) → places ≡ front ++ (p ∷ rest) → parcels_in past ≡ parcels_of front → IsLegal founder past → AreActs past
    → IsNotNext founder past p.parcel → StopsIn founder places p.offset
stops_in founder past places front rest p split taken legal acts not_next = record {
  before = past;
  front = front;
  placed = p;
  rest = rest;
  places_are = split;
  front_is = sym taken;
  legal = legal;
  acts = acts;
  not_next = not_next;
  offset_is = refl;
}

pub legal_more : (founder founder' : Key) (past : List Entry) (p : RawParcel) (now : List Entry) → founder' ≡ founder → ComesNext founder past p now → IsLegal founder past → IsLegal founder' now
legal_more founder founder' past p now same next legal =
    subst (λ (k : Key). IsLegal k now) (sym same) (subst (IsLegal founder) (sym next.now_is) (next.added, legal))

pub acts_more : (founder : Key) (past : List Entry) (p : RawParcel) (now : List Entry) → ComesNext founder past p now → AreActs past → AreActs now
acts_more founder past p now next acts = subst AreActs (sym next.now_is) (next.act, acts)

-- ---- parcels that are handed over one after the other

-- what was handed over is the front of the items
pub handed_front : {X A : Type 0} (s : IntoIter X A) (xs : List X) (t : IntoIter X A) → Yields into_iter_steps s xs t → into_iter_items s ≡ xs ++ into_iter_items t
handed_front s [] t y = ap into_iter_items y
handed_front s (x ∷ xs) t y = y.1.0 ∙ ap (λ ys. x ∷ ys) (handed_front y.0 xs t y.2)

-- where there is none left, it is all of them
pub handed_all : {X A : Type 0} (s : IntoIter X A) (xs : List X) (t u : IntoIter X A) → Yields into_iter_steps s xs t → into_iter_steps t None u → into_iter_items s ≡ xs
handed_all s xs t u y ends = sym (All-taken s xs (u, (t, y, ends)))

-- the next one stands between what was handed over and what is left
pub handed_split : {X A : Type 0} (s : IntoIter X A) (xs : List X) (t : IntoIter X A) (x : X) (u : IntoIter X A) → Yields into_iter_steps s xs t → into_iter_steps t (Some x) u → into_iter_items s ≡ xs ++ (x ∷ into_iter_items u)
handed_split s xs t x u y next = handed_front s xs t y ∙ ap (λ ys. xs ++ ys) next.0
