-- Entries that are found by caller and number.
use Rattle.std.proofs.Common.{◌≡◌, ℕ, ◌<◌, Bool, cond, List, [], ◌∷◌, ◌++◌, length, Option, Some, None, IfSome, refl, ap, sym, subst, ◌∙◌, inl, inr, arith}
use Rattle.std.specs.Prelude.{reverse}
use Rattle.std.specs.Option.{option_map}
use Rattle.std.proofs.lemmas.Bool.{cases_Bool}
use Rattle.std.proofs.lemmas.List.{take-append-le, reverse-append, reverse-reverse, length-reverse, length-map, length-append, get_or_append_left}
use Rattle.std.proofs.lemmas.Option.{slice_get_read, get_or_from_slice_get}
use Rattle.std.proofs.Math.Seq.{take-append_seam, get_or-append_seam}
use Rattle.act_model.specs.History.{Kept, numbered_entry, is_numbered}
use Rattle.act_model.specs.declared.entry.Entry.{Entry}
use Rattle.desk_core.specs.declared.filed.Filed.{Filed}
use Rattle.desk_core.specs.Filed.{entries_of, history_of, IsFiledAt}
use Rattle.desk_core.specs.Book.{place_of}

-- the newest entry, in what was filed
newest_at : (older : List Filed) (f : Filed) → IsFiledAt (older ++ f ∷ []) (length older) (record { entry = f.entry; before = history_of older })
newest_at older f =
    record {
      at = f;
      there = slice_get_read (older ++ f ∷ []) (length (older ++ f ∷ [])) (length older) f refl (simp length-append (omega arith)) (sym (get_or-append_seam older f [] f));
      entry = refl;
      before = ap history_of (sym (take-append_seam older (f ∷ [])));
    }

-- an entry stays where it is when one more is filed
stays_at : (filed : List Filed) (f : Filed) (place : ℕ) (k : Kept) → place < length filed → IsFiledAt filed place k → IsFiledAt (filed ++ f ∷ []) place k
stays_at filed f place k within at =
    let here = get_or_from_slice_get filed place at.at at.at at.there in
    record {
      at = at.at;
      there = slice_get_read (filed ++ f ∷ []) (length (filed ++ f ∷ [])) place at.at refl (simp length-append (omega arith)) (sym (get_or_append_left filed (f ∷ []) at.at place within ∙ here));
      entry = at.entry;
      before = at.before ∙ ap history_of (sym (take-append-le place filed (f ∷ []) (omega arith)));
    }

-- the entry that is kept for a number stands after as many as there were before it
pub record IsPlaced (filed : List Filed) (k : Kept) : Type 0 where
  pub within : length k.before < length filed
  pub at : IsFiledAt filed (length k.before) k

placed_newest : (newest : List Filed) (caller number : ℕ) (k : Kept) → numbered_entry (entries_of newest) caller number ≡ Some k → IsPlaced (reverse newest) k
placed_newest [] caller number k some = absurd (cc)
placed_newest (f ∷ older) caller number k some =
    let turned : reverse (f ∷ older) ≡ reverse older ++ f ∷ [] = reverse-append (f ∷ []) older in
    let own : Kept = record { entry = f.entry; before = entries_of older } in
    let count : length (entries_of older) ≡ length (reverse older) = length-map older _ ∙ sym (length-reverse older) in
    let back : history_of (reverse older) ≡ entries_of older = ap entries_of (reverse-reverse older) in
    subst (λ (filed : List Filed). IsPlaced filed k) (sym turned)
    (elim (cases_Bool (is_numbered caller number f.entry)) [
      | inl same ↦
          let is : Some own ≡ Some k = sym (ap (λ (b : Bool). cond b (Some own) (numbered_entry (entries_of older) caller number)) same) ∙ some in
          let own_is : own ≡ k = cc in
          let at : IsFiledAt (reverse older ++ f ∷ []) (length (reverse older)) own =
          subst (λ (h : List Entry). IsFiledAt (reverse older ++ f ∷ []) (length (reverse older)) (record { entry = f.entry; before = h })) back (newest_at (reverse older) f) in
          subst (λ (x : Kept). IsPlaced (reverse older ++ f ∷ []) x) own_is
          (record { within = simp length-append (omega arith); at = subst (λ (n : ℕ). IsFiledAt (reverse older ++ f ∷ []) n own) (sym count) at })
      | inr other ↦
          let past : numbered_entry (entries_of older) caller number ≡ Some k = sym (ap (λ (b : Bool). cond b (Some own) (numbered_entry (entries_of older) caller number)) other) ∙ some in
          let rest = placed_newest older caller number k past in
          let less = rest.within in
          record { within = simp length-append (omega arith); at = stays_at (reverse older) f (length k.before) k less rest.at }
    ])

pub placed : (filed : List Filed) (caller number : ℕ) (k : Kept) → numbered_entry (history_of filed) caller number ≡ Some k → IsPlaced filed k
placed filed caller number k some = subst (λ (xs : List Filed). IsPlaced xs k) (reverse-reverse filed) (placed_newest (reverse filed) caller number k some)

some_place : (o : Option Kept) (place : ℕ) → Some place ≡ option_map (λ k. length k.before) o → (k : Kept) × (o ≡ Some k) × (place ≡ length k.before)
some_place None place is = absurd (cc)
some_place (Some k) place is = (k, refl, cc)

pub found_within : (filed : List Filed) (caller number : ℕ) (o : Option ℕ) → o ≡ place_of filed caller number → IfSome o (λ place. place < length filed)
found_within filed caller number None is = tt
found_within filed caller number (Some place) is =
    let k = some_place (numbered_entry (history_of filed) caller number) place is in
    let at = (placed filed caller number k.0 k.1).within in
    omega (arith, at, k.2)

pub found_at : (filed : List Filed) (caller number : ℕ) (o : Option ℕ) → o ≡ place_of filed caller number
    → IfSome o (λ place. (k : Kept) × (numbered_entry (history_of filed) caller number ≡ Some k) × IsFiledAt filed place k)
found_at filed caller number None is = tt
found_at filed caller number (Some place) is =
    let k = some_place (numbered_entry (history_of filed) caller number) place is in
    (k.0, k.1, subst (λ (n : ℕ). IsFiledAt filed n k.0) (sym k.2) (placed filed caller number k.0 k.1).at)
