-- The bytes of one file: what a read gives of them, and what a write and a cut make of them.
use Rattle.std.specs.Prelude.{◌≡◌, ◌⊎◌, ◌↔◌, ℕ, ◌+◌, ◌-◌, ◌≤◌, List, [], ◌∷◌, ◌++◌, length, take, drop, replicate}

-- a read at an offset put n bytes of the file into the front of a piece: none exactly into an empty piece, or from
-- the end on
pub record Gives (file : List ℕ) (at n : ℕ) (old new : List ℕ) : Type 0 where
  pub within : n ≤ length file - at
  pub none : n ≡ 0 ↔ ((length old ≡ 0) ⊎ (length file ≤ at))
  pub piece : new ≡ take n (drop at file) ++ drop n old

-- the file at a length that isn't less than its own: zeros fill it up
abbrev pub lengthened : ℕ → List ℕ → List ℕ
lengthened len file = file ++ replicate (len - length file) 0

-- The file with these bytes at this offset. Zeros fill a gap between its end and the offset; no bytes change
-- nothing.
abbrev pub written : ℕ → List ℕ → List ℕ → List ℕ
written at [] file = file
written at (byte ∷ bytes) file =
    take at (lengthened at file) ++ (byte ∷ bytes) ++ drop (at + length (byte ∷ bytes)) file

-- the file cut to a length; one that isn't longer stays
abbrev pub cut_to : ℕ → List ℕ → List ℕ
cut_to len file = take len file
