-- The images over the calls of an append.
use Rattle.std.proofs.Common.{◌≡◌, ◌⊎◌, inl, ℕ, ◌+◌, ◌≤◌, List, [], ◌∷◌, ◌++◌, subst}
use Rattle.std.specs.Prelude.{IfSome}
use Rattle.std.specs.declared.option.Option.{Option}
use Rattle.std.specs.declared.option.Option.TheVariants.{Some}
use Rattle.disk_model.specs.Crashes.{Torn, After, Passes, EachSince, During}
use Rattle.disk_model.specs.Moments.{during_call, during_one_more}
use Rattle.obs_journal.specs.Parcels.{RawParcel, IsParcel, parcel_bytes}
use Rattle.obs_journal.specs.Formats.{next_seal, front_length}
use Rattle.obs_journal.specs.declared.format.Format.{Format}
use Rattle.obs_journal.specs.Files.{IsRowIn}
use Rattle.obs_journal.specs.Journals.{IsDoubtfulIn}
use Rattle.obs_journal.specs.Writing.{IsSafe}
use Rattle.obs_journal.proofs.Appends.{torn_behind, IsStaged, staged, torn_gate, either_row, opened_gate}

module _ {D : Type 0} (reads : D → Option (List ℕ)) (leaves : D → List ℕ → Type 0) (moment : D → ℕ) (since : D → ℕ → List ℕ → Type 0)
    (as_read : (disk : D) (file : List ℕ) → reads disk ≡ Some file → leaves disk file)
    (counts_now : (disk : D) (t : ℕ) (image : List ℕ) → t ≤ moment disk → leaves disk image → since disk t image) where
  -- what holds of each image since a moment holds of each image now
  pub each_now : {old new : D} (P : List ℕ → Type 0) → Passes moment since old new → EachSince moment since old new P → (image : List ℕ) → leaves new image → P image
  each_now {old = old} {new = new} P passes each image now = each image (counts_now new (moment old) image passes.later now)

  module _ (f : Format) (ps : List RawParcel) (p : RawParcel) where
    abbrev pub Either : List ℕ → Type 0
    Either image = IsRowIn f image ps ⊎ IsRowIn f image (ps ++ p ∷ [])

    -- while the parcel is written after the closed gate
    pub rows_stay : {old mid : D} (at n : ℕ) → at ≡ front_length f ps + 1 → ((image : List ℕ) → leaves old image → IsRowIn f image ps) → EachSince moment since old mid (After (Torn at n) (leaves old)) → EachSince moment since old mid (λ image. IsRowIn f image ps)
    rows_stay at n at_is rows torn image was = let from = torn image was in torn_behind f ps p at n from.0 image at_is (rows from.0 from.1) from.2

    -- once that is safe
    pub are_staged : {old mid : D} (at : ℕ) (bytes : List ℕ) → at ≡ front_length f ps + 1 → bytes ≡ parcel_bytes p ++ (next_seal f ps p ++ 0 ∷ []) → IsParcel p → ((image : List ℕ) → leaves old image → IsRowIn f image ps) → IsSafe reads leaves at bytes old mid
        → (image : List ℕ) → leaves mid image → IsStaged f ps p image
    are_staged {old = old} {mid = mid} at bytes at_is bytes_are fits rows safe image now =
        let from = subst (λ b. IsSafe reads leaves at b old mid) bytes_are safe image now in
        staged f ps p at from.0 image at_is fits (rows from.0 (as_read old from.0 from.1)) from.2

    -- while the gate is opened
    pub are_doubtful : {mid new : D} (at : ℕ) → at ≡ front_length f ps → ((image : List ℕ) → leaves mid image → IsStaged f ps p image) → EachSince moment since mid new (After (Torn at 1) (leaves mid)) → EachSince moment since mid new (λ image. IsDoubtfulIn f image ps p)
    are_doubtful at at_is stage torn image was = let from = torn image was in torn_gate f ps p at from.0 image at_is (stage from.0 from.1).doubtful from.2

    -- once that is safe
    pub are_more : {mid new : D} (at : ℕ) → at ≡ front_length f ps → ((image : List ℕ) → leaves mid image → IsStaged f ps p image) → IsSafe reads leaves at (1 ∷ []) mid new → (image : List ℕ) → leaves new image → IsRowIn f image (ps ++ p ∷ [])
    are_more {mid = mid} at at_is stage safe image now = let from = safe image now in opened_gate f ps p at from.0 image at_is (stage from.0 (as_read mid from.0 from.1)).doubtful from.2

    pub during_stage : {old mid : D} → Passes moment since old mid → EachSince moment since old mid (λ image. IsRowIn f image ps) → During moment since old mid Either
    during_stage passes rows = during_call Either passes (λ image was. inl (rows image was))

    pub during_gate : {old mid new : D} → During moment since old mid Either → Passes moment since mid new → EachSince moment since mid new (λ image. IsDoubtfulIn f image ps p) → During moment since old new Either
    during_gate first passes doubtful = during_one_more first passes (λ image was. either_row f ps p image (doubtful image was))

-- what is said of known reads, at what they are
pub at_known : (known : Option (List ℕ)) (P : List ℕ → Type 0) (file : List ℕ) → IfSome known P → known ≡ Some file → P file
at_known known P file said is = subst (λ r. IfSome r P) is said
