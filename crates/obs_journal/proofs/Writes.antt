-- A write that a sync follows.
use Rattle.std.proofs.Common.{◌≡◌, ℕ, ◌≤◌, List, length, refl, sym, ◌∙◌, subst}
use Rattle.std.specs.Prelude.{IsSome, IfSome}
use Rattle.std.specs.declared.option.Option.{Option}
use Rattle.std.specs.declared.option.Option.TheVariants.{None, Some}
use Rattle.disk_model.specs.Files.{written}
use Rattle.disk_model.specs.Crashes.{Torn, After, Passes, EachSince}
use Rattle.obs_journal.specs.Writing.{IsSafe}

is_known : (image : List ℕ) (at : ℕ) (bytes : List ℕ) (before after now : Option (List ℕ)) → IsSome before → IfSome before (λ file. after ≡ Some (written at bytes file)) → now ≡ after → now ≡ Some image
    → (file : List ℕ) × (before ≡ Some file) × (image ≡ written at bytes file)
is_known image at bytes None after now some wrote same is = cc
is_known image at bytes (Some file) after now some wrote same is = let e : Some image ≡ Some (written at bytes file) = sym is ∙ same ∙ wrote in (file, refl, cc)

-- the sync after a write leaves what it wrote
pub wrote_still : (at : ℕ) (bytes : List ℕ) (before after now : Option (List ℕ)) → IfSome before (λ file. after ≡ Some (written at bytes file)) → now ≡ after → IfSome before (λ file. now ≡ Some (written at bytes file))
wrote_still at bytes before after now wrote same = subst (λ r. IfSome before (λ file. r ≡ Some (written at bytes file))) (sym same) wrote

module _ {D : Type 0} (reads : D → Option (List ℕ)) (leaves : D → List ℕ → Type 0) (moment : D → ℕ) (since : D → ℕ → List ℕ → Type 0)
    (known : (disk : D) (image : List ℕ) → leaves disk image → IsSome (reads disk))
    (counts_now : (disk : D) (t : ℕ) (image : List ℕ) → t ≤ moment disk → leaves disk image → since disk t image) where
  -- after the write and the sync each image is the file with the bytes
  pub safe_after : {old mid new : D} (at : ℕ) (bytes : List ℕ) → IfSome (reads old) (λ file. reads mid ≡ Some (written at bytes file)) → Passes moment since old mid → EachSince moment since old mid (After (Torn at (length bytes)) (leaves old))
      → reads new ≡ reads mid → Passes moment since mid new → EachSince moment since mid new (leaves mid) → ((image : List ℕ) → leaves new image → reads new ≡ Some image) → IsSafe reads leaves at bytes old new
  safe_after {old = old} {mid = mid} {new = new} at bytes wrote first torn same second kept safe =
      λ image now.
      let middle : leaves mid image = kept image (counts_now new (moment mid) image second.later now) in
      let from = torn image (counts_now mid (moment old) image first.later middle) in
      is_known image at bytes (reads old) (reads mid) (reads new) (known old from.0 from.1) wrote same (safe image now)
