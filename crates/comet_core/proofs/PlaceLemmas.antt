-- Entries and comets that stand at a place, counted from the oldest on.
use Rattle.std.proofs.Common.{◌≡◌, ℕ, suc, ◌<◌, ◌≤◌, Bool, true, false, cond, List, [], ◌∷◌, ◌++◌, length, Option, Some, None, refl, ap, sym, subst, ◌∙◌, arith}
use Rattle.std.specs.Prelude.{reverse, slice_get}
use Rattle.std.specs.Option.{option_map}
use Rattle.std.proofs.lemmas.List.{reverse-append, length-reverse, length-append, get_or_append_left}
use Rattle.std.proofs.lemmas.Option.{slice_get_read, get_or_from_slice_get}
use Rattle.std.proofs.Math.Seq.{get_or-append_seam}
use Rattle.act_model.specs.declared.deed.Deed.{Deed}
use Rattle.act_model.specs.declared.entry.Entry.{Entry}
use Rattle.act_model.specs.History.{Kept, numbered_entry, is_numbered}
use Rattle.comet_model.specs.declared.named.NamedComet.{NamedComet}
use Rattle.comet_model.specs.Register.{named_by, with_named, comets}
use Rattle.comet_core.specs.Book.{place_of}

-- ---- lists, the newest first

-- the newest is at the place that is the length of the rest
newest_at : {A : Type 0} (past : List A) (x : A) → slice_get (reverse (x ∷ past)) (length past) ≡ Some x
newest_at {A} past x =
    let older : List A = reverse past in
    let seam : slice_get (older ++ x ∷ []) (length older) ≡ Some x =
    slice_get_read (older ++ x ∷ []) (length (older ++ x ∷ [])) (length older) x refl (simp length-append (omega arith)) (sym (get_or-append_seam older x [] x)) in
    subst (λ (n : ℕ). slice_get (reverse (x ∷ past)) n ≡ Some x) (length-reverse past) (ap (λ (xs : List A). slice_get xs (length older)) (reverse-append (x ∷ []) past) ∙ seam)

-- what stands at a place stays there
stays_at : {A : Type 0} (past : List A) (x y : A) (i : ℕ) → i < length past → slice_get (reverse past) i ≡ Some y → slice_get (reverse (x ∷ past)) i ≡ Some y
stays_at {A} past x y i within is =
    let older : List A = reverse past in
    let inside : i < length older = subst (λ (n : ℕ). i < n) (sym (length-reverse past)) within in
    let here = get_or_from_slice_get older i y y is in
    ap (λ (xs : List A). slice_get xs i) (reverse-append (x ∷ []) past)
    ∙ slice_get_read (older ++ x ∷ []) (length (older ++ x ∷ [])) i y refl (simp length-append (omega arith)) (sym (get_or_append_left older (x ∷ []) y i inside ∙ here))

-- ---- entries that name a comet each

-- an entry and the comet that it names stand at the same place, which is how many entries were before it
pub record Stands (desk : List Deed) (entries : List Entry) (named : List NamedComet) (k : Kept) : Type 0 where
  pub within : length k.before < length entries
  pub entry : slice_get (reverse entries) (length k.before) ≡ Some k.entry
  pub comet_within : length k.before < length named
  pub comet : NamedComet
  pub there : slice_get (reverse named) (length k.before) ≡ Some comet
  pub names : named_by desk (comets desk k.before) k.entry ≡ Some comet

module _ (desk : List Deed) where
  -- no entry names two
  count_most : (entries : List Entry) → length (comets desk entries) ≤ length entries
  count_most [] = omega arith
  count_most (e ∷ past) = by (named_by desk (comets desk past) e) (count_most past)
    where
      by : (o : Option NamedComet) → length (comets desk past) ≤ length past → length (with_named o (comets desk past)) ≤ length (e ∷ past)
      by None rest = omega (arith, rest)
      by (Some n) rest = omega (arith, rest)

  stands_newest : (e : Entry) (past : List Entry) (n : NamedComet) → named_by desk (comets desk past) e ≡ Some n → length (comets desk past) ≡ length past
      → Stands desk (e ∷ past) (n ∷ comets desk past) (record { entry = e; before = past })
  stands_newest e past n names same = record {
    within = omega arith;
    entry = newest_at past e;
    comet_within = omega (arith, same);
    comet = n;
    there = subst (λ (i : ℕ). slice_get (reverse (n ∷ comets desk past)) i ≡ Some n) same (newest_at (comets desk past) n);
    names = names;
  }

  stands_older : (e : Entry) (past : List Entry) (n : NamedComet) (k : Kept) → Stands desk past (comets desk past) k → Stands desk (e ∷ past) (n ∷ comets desk past) k
  stands_older e past n k s =
      let within = s.within in
      let comet_within = s.comet_within in
      record {
        within = omega (arith, within);
        entry = stays_at past e k.entry (length k.before) within s.entry;
        comet_within = omega (arith, comet_within);
        comet = s.comet;
        there = stays_at (comets desk past) n s.comet (length k.before) comet_within s.there;
        names = s.names;
      }

  abbrev Again : ℕ → Kept → List Entry → Type 0
  Again number k past = length (comets desk past) ≡ length past → numbered_entry past 0 number ≡ Some k → Stands desk past (comets desk past) k

  pub stands : (number : ℕ) (k : Kept) (entries : List Entry) → length (comets desk entries) ≡ length entries → numbered_entry entries 0 number ≡ Some k → Stands desk entries (comets desk entries) k
  stands number k [] same some = absurd cc
  stands number k (e ∷ past) same some = by (named_by desk (comets desk past) e) refl same (stands number k past)
    where
      own : Kept
      own = record { entry = e; before = past }

      used : Again number k past → (n : NamedComet) → named_by desk (comets desk past) e ≡ Some n → length (comets desk past) ≡ length past → (b : Bool) → is_numbered 0 number e ≡ b
          → Stands desk (e ∷ past) (n ∷ comets desk past) k
      used again n names rest true is =
          let found : Some own ≡ Some k = sym (ap (λ (b : Bool). cond b (Some own) (numbered_entry past 0 number)) is) ∙ some in
          let own_is : own ≡ k = cc in
          subst (λ (x : Kept). Stands desk (e ∷ past) (n ∷ comets desk past) x) own_is (stands_newest e past n names rest)
      used again n names rest false is =
          let found : numbered_entry past 0 number ≡ Some k = sym (ap (λ (b : Bool). cond b (Some own) (numbered_entry past 0 number)) is) ∙ some in
          stands_older e past n k (again rest found)

      by : (o : Option NamedComet) → named_by desk (comets desk past) e ≡ o → length (with_named o (comets desk past)) ≡ suc (length past) → Again number k past → Stands desk (e ∷ past) (with_named o (comets desk past)) k
      by None names rest again = let most = count_most past in absurd (omega (arith, most, rest))
      by (Some n) names rest again = used again n names (omega (arith, rest)) (is_numbered 0 number e) refl

-- what a number stands for is found at its place
some_place : (o : Option Kept) (place : ℕ) → Some place ≡ option_map (λ k. length k.before) o → (k : Kept) × (o ≡ Some k) × (place ≡ length k.before)
some_place None place is = absurd cc
some_place (Some k) place is = (k, refl, cc)

pub placed : (entries : List Entry) (number place : ℕ) → Some place ≡ place_of entries number → (k : Kept) × (numbered_entry entries 0 number ≡ Some k) × (place ≡ length k.before)
placed entries number place is = some_place (numbered_entry entries 0 number) place is
