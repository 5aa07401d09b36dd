-- What the disk under an office says about itself.
use Rattle.std.specs.Prelude.{ℕ, List, Option}

-- what disks of one kind say about themselves: the bytes that reads give, the images that a crash may leave now and
-- since an earlier moment, and how often a call failed
pub record DiskWords (D : Type 0) : Type 1 where
  pub reads : D → Option (List ℕ)
  pub leaves : D → List ℕ → Type 0
  pub moment : D → ℕ
  pub since : D → ℕ → List ℕ → Type 0
  pub faults : D → ℕ

abbrev pub disk_words : {D : Type 0} → (D → Option (List ℕ)) → (D → List ℕ → Type 0) → (D → ℕ)
    → (D → ℕ → List ℕ → Type 0) → (D → ℕ) → DiskWords D
disk_words reads leaves moment since faults =
    record { reads = reads; leaves = leaves; moment = moment; since = since; faults = faults }
