-- What a fresh file, and a file that is only read, may be left as.
use Rattle.std.proofs.Common.{◌≡◌, ◌↔◌, inl, inr, ⊎_elim, ℕ, ◌≤◌, List, [], ◌∷◌, length, refl, ap, subst, arith}
use Rattle.std.proofs.lemmas.Bool.{cases_eq}
use Rattle.std.specs.Prelude.{Result, Ok, IfOk, IfSome, IsSome, IsTrue, Bool, true, false}
use Rattle.std.specs.declared.option.Option.{Option}
use Rattle.std.specs.declared.option.Option.TheVariants.{None, Some}
use Rattle.disk_model.specs.Crashes.{Torn, After, Passes, EachSince, During}
use Rattle.disk_model.specs.Moments.{during_one_more, during_weaker, images_after}
use Rattle.obs_journal.specs.Parcels.{RawParcel}
use Rattle.obs_journal.specs.Files.{IsFresh, IsRowIn, Spells, IsBrokenIn, IsDamagedAt}
use Rattle.obs_journal.specs.declared.format.Format.{Format}
use Rattle.obs_journal.specs.declared.format.Format.TheVariants.{Plain}
use Rattle.obs_journal.specs.Journals.{IsUnwritten}
use Rattle.obs_journal.specs.Opening.{SpellsAlike}
use Rattle.obs_journal.proofs.Quiet.{never_both}
use Rattle.obs_journal.proofs.Steps.{at_known}
use Rattle.obs_journal.proofs.Rows.{damage_spells_nothing}

-- what a result says of its value
pub ok_at : {T E : Type 0} (result : Result T E) (P : T → Type 0) (value : T) → IfOk result P → result ≡ Ok value → P value
ok_at result P value said is = subst (λ r. IfOk r P) is said

short_spells_nothing : (image : List ℕ) → length image ≤ 1 → Spells image []
short_spells_nothing [] short = inl (inl refl, refl)
short_spells_nothing (x ∷ []) short = elim (cases_eq x 1) [
  | inl is_open ↦ inl (inr (ap (λ n. n ∷ []) is_open), refl)
  | inr shut ↦ inr (record { gate = x; rest = []; file_is = refl; closed = shut; each = tt })
]
short_spells_nothing (x ∷ y ∷ image) short = absurd (omega (arith, short))

fresh_is_short : (file : List ℕ) → IsFresh file → length file ≤ 1
fresh_is_short file (inl empty) = omega (arith, ap length empty)
fresh_is_short file (inr one) = omega (arith, ap length one)

-- while the first gate is written
pub fresh_torn : (known : Option (List ℕ)) (before image : List ℕ) → known ≡ Some before → IsFresh before → Torn 0 1 before image → SpellsAlike known image
fresh_torn known before image is fresh torn = record {
  file = before;
  parcels = [];
  file_is = is;
  before = inl (fresh, refl);
  now = short_spells_nothing image (omega (arith, fresh_is_short before fresh, torn.no_longer));
}

-- a file that isn't fresh is damaged where its reading says so
pub damaged_there : (known : Option (List ℕ)) (end offset : ℕ) (is_fresh : Bool) → is_fresh ≡ false → IfSome known (λ file. length file ≡ end) → IfSome known (λ file. length file ≡ end → (IsTrue is_fresh ↔ IsFresh file))
    → IfSome known (λ file. length file ≡ end → IsBrokenIn Plain file offset) → IfSome known (λ file. IsDamagedAt file offset)
damaged_there None end offset is_fresh not_so long fresh damaged = tt
damaged_there (Some file) end offset is_fresh not_so long fresh damaged =
    let d = damaged long in
    record {
      before = d.before;
      rest = d.rest;
      file_is = d.file_is;
      each = d.each;
      stops = d.stops;
      not_fresh = λ one. let so : is_fresh ≡ true = (fresh long).1 (inr one) in absurd (cc (so, not_so));
      offset_is = omega (arith, d.offset_is);
    }

-- a file that spells a list isn't damaged
pub never_damaged : (known : Option (List ℕ)) (offset : ℕ) → IfSome known (λ file. IsDamagedAt file offset) → IsSome known → ((file : List ℕ) → known ≡ Some file → (ps : List RawParcel) × Spells file ps) → ⊥
never_damaged known offset = never_both known (λ file. IsDamagedAt file offset) (λ file. (ps : List RawParcel) × Spells file ps) (λ file damaged list. damage_spells_nothing file offset list.0 damaged list.1)

module _ {D : Type 0} (reads : D → Option (List ℕ)) (leaves : D → List ℕ → Type 0) (moment : D → ℕ) (since : D → ℕ → List ℕ → Type 0)
    (counts_now : (disk : D) (t : ℕ) (image : List ℕ) → t ≤ moment disk → leaves disk image → since disk t image)
    (only_now : (disk : D) (image : List ℕ) → since disk (moment disk) image → leaves disk image) where
  -- an image of a disk that was not written was one before
  pub image_before : {old new : D} → IsUnwritten reads moment since old new → (image : List ℕ) → leaves new image → leaves old image
  image_before unwritten image now = ⊎_elim (λ was. was) (λ none. absurd none) (images_after leaves counts_now only_now unwritten.no_image image now)

  pub row_known : {old mid new : D} (f : Format) (end : ℕ) (ps : List RawParcel) → IfSome (reads old) (λ file. length file ≡ end) → ((image : List ℕ) → leaves mid image → reads old ≡ Some image) → IsUnwritten reads moment since mid new
      → IfSome (reads old) (λ file. length file ≡ end → IsRowIn f file ps) → (image : List ℕ) → leaves new image → IsRowIn f image ps
  row_known {old = old} f end ps long safe unwritten row image now =
      let is = safe image (image_before unwritten image now) in
      at_known (reads old) (λ file. length file ≡ end → IsRowIn f file ps) image row is (at_known (reads old) (λ file. length file ≡ end) image long is)

  pub during_fresh : {old mid last new : D} (end : ℕ) (is_fresh : Bool) → is_fresh ≡ true → IfSome (reads old) (λ file. length file ≡ end) → ((image : List ℕ) → leaves mid image → reads old ≡ Some image)
      → IfSome (reads old) (λ file. length file ≡ end → (IsTrue is_fresh ↔ IsFresh file)) → IsUnwritten reads moment since old last → IsUnwritten reads moment since mid last → Passes moment since last new → EachSince moment since last new (After (Torn 0 1) (leaves last))
      → During moment since old new (SpellsAlike (reads old))
  during_fresh {old = old} end is_fresh so long safe fresh unwritten after passes torn =
      during_one_more (during_weaker (SpellsAlike (reads old)) (λ image none. absurd none) unwritten.no_image) passes (λ image was.
      let from = torn image was in
      let is = safe from.0 (image_before after from.0 from.1) in
      let fresh_there = at_known (reads old) (λ file. length file ≡ end → (IsTrue is_fresh ↔ IsFresh file)) from.0 fresh is (at_known (reads old) (λ file. length file ≡ end) from.0 long is) in
      fresh_torn (reads old) from.0 image is (fresh_there.0 so) from.2)
