-- What a crash may leave of a file: its images.
use Rattle.std.specs.Prelude.{◌≡◌, ◌⊎◌, ◌↔◌, ℕ, ◌+◌, ◌≤◌, min, max, List, length, take, drop}

-- What a write of n bytes at this offset may leave of a file until a sync. The range may hold any bytes, and so may
-- the part past the old end. The length lies between the two ends. All else stays, and a write of no bytes changes
-- nothing.
pub record Torn (at n : ℕ) (old new : List ℕ) : Type 0 where
  pub before : take (min at (length old)) new ≡ take at old
  pub after : drop (at + n) new ≡ drop (at + n) old
  pub no_shorter : length old ≤ length new
  pub no_longer : length new ≤ max (length old) (at + n)
  pub nothing : n ≡ 0 → new ≡ old

-- What a cut to n bytes may leave of a file until a sync: a front, whose length lies between the two ends.
pub record CutTo (n : ℕ) (old new : List ℕ) : Type 0 where
  pub no_shorter : min n (length old) ≤ length new
  pub front : new ≡ take (length new) old

-- an image after a step: what the step may leave of one of the images before it
abbrev pub After : (List ℕ → List ℕ → Type 0) → (List ℕ → Type 0) → List ℕ → Type 0
After step images image = (before : List ℕ) × images before × step before image

-- Time goes on from old to new: the images since an earlier moment are those that there were, and those since old.
pub record Passes {D : Type 0} (moment : D → ℕ) (since : D → ℕ → List ℕ → Type 0) (old new : D) : Type 0 where
  pub later : moment old ≤ moment new
  pub gathered : (t : ℕ) (image : List ℕ) → t ≤ moment old
      → since new t image ↔ (since old t image ⊎ since new (moment old) image)

-- each image at some moment since old has P
abbrev pub EachSince : {D : Type 0} (moment : D → ℕ) (since : D → ℕ → List ℕ → Type 0) (old new : D)
    (P : List ℕ → Type 0) → Type 0
EachSince moment since old new P = (image : List ℕ) → since new (moment old) image → P image

-- A crash at any moment from old to new: each image since an earlier moment was one before, or has P.
pub record During {D : Type 0} (moment : D → ℕ) (since : D → ℕ → List ℕ → Type 0) (old new : D)
    (P : List ℕ → Type 0) : Type 0 where
  pub later : moment old ≤ moment new
  pub either : (t : ℕ) (image : List ℕ) → t ≤ moment old → since new t image → since old t image ⊎ P image
