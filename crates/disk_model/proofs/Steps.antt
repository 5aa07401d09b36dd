-- A call of a disk in memory as a span of time.
use Rattle.std.proofs.Common.{◌≡◌, ◌⊎◌, ◌↔◌, inl, inr, ⊎_elim, ℕ, zero, suc, ◌+◌, ◌≤◌, Bool, true, false, List, ◌∷◌, length, sym, ap, subst, arith}
use Rattle.disk_model.specs.Crashes.{Torn, CutTo, After, Passes, EachSince}
use Rattle.disk_model.specs.FileLaws.{torn_same, cut_same}
use Rattle.disk_model.specs.Memory.{Deed, Wrote, Cut, Synced, MemoryState, IsImage, IsImageSince, images_of, moment_of, images_since, Records}
use Rattle.disk_model.specs.MemoryLaws.{is_file_image, only_image_now}

since_earlier : (first : List ℕ) (deeds : List Deed) (t later : ℕ) (image : List ℕ) → t ≤ later → IsImageSince first deeds later image → IsImageSince first deeds t image
since_earlier first deeds t later image le (newer, within, was) = (newer, (let less : newer + t ≤ length deeds = omega (arith, within, le) in less), was)

-- the images since an earlier moment, with one deed more
since_more : (first : List ℕ) (deed : Deed) (deeds : List Deed) (t : ℕ) (image : List ℕ) → t ≤ length deeds
    → IsImageSince first (deed ∷ deeds) t image → IsImageSince first deeds t image ⊎ IsImageSince first (deed ∷ deeds) (length deeds) image
since_more first deed deeds t image le (zero, within, was) = inr (zero, (let all : 0 + length deeds ≤ length (deed ∷ deeds) = omega arith in all), was)
since_more first deed deeds t image le (suc newer, within, was) = inl (newer, (let less : newer + t ≤ length deeds = omega (arith, within) in less), was)

since_pushed : (first : List ℕ) (deed : Deed) (deeds : List Deed) (t : ℕ) (image : List ℕ) → IsImageSince first deeds t image → IsImageSince first (deed ∷ deeds) t image
since_pushed first deed deeds t image (newer, within, was) = (suc newer, (let more : suc newer + t ≤ length (deed ∷ deeds) = omega (arith, within) in more), was)

-- an image since the start of a call that made one deed was one before it, or is one after it
since_start : (first : List ℕ) (deed : Deed) (deeds : List Deed) (image : List ℕ) → IsImageSince first (deed ∷ deeds) (length deeds) image → IsImage first deeds image ⊎ IsImage first (deed ∷ deeds) image
since_start first deed deeds image (zero, within, was) = inr was
since_start first deed deeds image (suc zero, within, was) = inl was
since_start first deed deeds image (suc (suc newer), within, was) = absurd (omega (arith, within))

-- what holds of a state's first file and deeds
moved : (P : List ℕ → List Deed → Type 0) (first first' : List ℕ) (deeds deeds' : List Deed) → first' ≡ first → deeds' ≡ deeds → P first deeds → P first' deeds'
moved P first first' deeds deeds' is_first is_deeds p = subst (λ (f : List ℕ). P f deeds') (sym is_first) (subst (λ (ds : List Deed). P first ds) (sym is_deeds) p)

module _ (old new : MemoryState) where
  pub passes_same : new.first ≡ old.first → new.deeds ≡ old.deeds → Passes moment_of images_since old new
  passes_same is_first is_deeds = record {
    later = let same : length new.deeds ≡ length old.deeds = ap length is_deeds in omega (arith, same);
    gathered = λ t image le.
        moved (λ f ds. IsImageSince f ds t image ↔ (IsImageSince old.first old.deeds t image ⊎ IsImageSince f ds (length old.deeds) image)) _ _ _ _ is_first is_deeds
        (λ was. inl was, λ either. ⊎_elim (λ was. was) (λ inside. since_earlier old.first old.deeds t (length old.deeds) image le inside) either);
  }

  pub each_same : new.first ≡ old.first → new.deeds ≡ old.deeds → EachSince moment_of images_since old new (images_of old)
  each_same is_first is_deeds =
      moved (λ f ds. (image : List ℕ) → IsImageSince f ds (length old.deeds) image → images_of old image) _ _ _ _ is_first is_deeds (only_image_now old.first old.deeds)

  passes_deed : (deed : Deed) → new.first ≡ old.first → new.deeds ≡ deed ∷ old.deeds → Passes moment_of images_since old new
  passes_deed deed is_first is_deeds = record {
    later = let more : length new.deeds ≡ length (deed ∷ old.deeds) = ap length is_deeds in omega (arith, more);
    gathered = λ t image le.
        moved (λ f ds. IsImageSince f ds t image ↔ (IsImageSince old.first old.deeds t image ⊎ IsImageSince f ds (length old.deeds) image)) _ _ _ _ is_first is_deeds
        (λ was. since_more old.first deed old.deeds t image le was, λ either. ⊎_elim (λ was. since_pushed old.first deed old.deeds t image was) (λ inside. since_earlier old.first (deed ∷ old.deeds) t (length old.deeds) image le inside) either);
  }

  each_deed : (deed : Deed) (P : List ℕ → Type 0) → ((image : List ℕ) → images_of old image → P image) → ((image : List ℕ) → IsImage old.first (deed ∷ old.deeds) image → P image)
      → new.first ≡ old.first → new.deeds ≡ deed ∷ old.deeds → EachSince moment_of images_since old new P
  each_deed deed P before after is_first is_deeds =
      moved (λ f ds. (image : List ℕ) → IsImageSince f ds (length old.deeds) image → P image) _ _ _ _ is_first is_deeds
      (λ image was. ⊎_elim (before image) (after image) (since_start old.first deed old.deeds image was))

  pub passes_records : (deed : Bool → Deed) → Records old new deed → Passes moment_of images_since old new
  passes_records deed records = ⊎_elim (λ same. passes_same records.0 same) (λ more. passes_deed (deed more.0) records.0 more.1) records.1

  pub each_write : (at : ℕ) (bytes : List ℕ) → Records old new (Wrote at bytes) → EachSince moment_of images_since old new (After (Torn at (length bytes)) (images_of old))
  each_write at bytes records =
      let before : (image : List ℕ) → images_of old image → After (Torn at (length bytes)) (images_of old) image = λ image was. (image, was, torn_same at (length bytes) image) in
      ⊎_elim (λ same. λ image was. before image (each_same records.0 same image was)) (λ more. each_deed (Wrote at bytes more.0) _ before (λ image was. was) records.0 more.1) records.1

  pub each_cut : (len : ℕ) → Records old new (Cut len) → EachSince moment_of images_since old new (After (CutTo len) (images_of old))
  each_cut len records =
      let before : (image : List ℕ) → images_of old image → After (CutTo len) (images_of old) image = λ image was. (image, was, cut_same len image) in
      ⊎_elim (λ same. λ image was. before image (each_same records.0 same image was)) (λ more. each_deed (Cut len more.0) _ before (λ image was. was) records.0 more.1) records.1

  pub each_sync : Records old new Synced → EachSince moment_of images_since old new (images_of old)
  each_sync records = ⊎_elim (each_same records.0) (λ more. each_deed (Synced more.0) _ (λ image was. was) (synced more.0) records.0 more.1) records.1
    where
      synced : (done : Bool) (image : List ℕ) → IsImage old.first (Synced done ∷ old.deeds) image → images_of old image
      synced true image is = subst (λ (l : List ℕ). images_of old l) (sym is) (is_file_image old.first old.deeds)
      synced false image was = was
