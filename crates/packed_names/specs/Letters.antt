-- The letters from A on without I. They count half-months, A to Y, and places in the order of a half-month's
-- designations, A to Z.
use Rattle.std.specs.Prelude.{ℕ, ◌+◌, ◌-◌, nat_lt, nat_le, ◌&&◌, if◌then◌else◌, List, [], ◌∷◌, Option, Some, None}
use Rattle.ascii_text.specs.Reading.{◌>>=◌}

-- the letter of an index: 0 to 7 are A to H, and 8 is J
abbrev pub letter_of : ℕ → ℕ
letter_of index = if nat_lt index 8 then 65 + index else 66 + index

-- the index of a letter; none for I, and for what is no capital letter
unfoldable pub index_of : ℕ → Option ℕ
index_of letter =
    if nat_le 65 letter && nat_le letter 72 then Some (letter - 65)
    else (if nat_le 74 letter && nat_le letter 90 then Some (letter - 66) else None)

-- the index of the letter at the front, which is among the first count letters, and the text after it
unfoldable pub letter_at : ℕ → List ℕ → Option (ℕ × List ℕ)
letter_at count [] = None
letter_at count (letter ∷ text) = do
  index ← index_of letter
  if nat_lt index count then Some (index, text) else None
