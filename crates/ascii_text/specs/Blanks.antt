-- Blanks, the bytes 32.
use Rattle.std.specs.Prelude.{◌≡◌, ◌≢◌, ◌-◌, ◌++◌, length, slice_index, ℕ, Bool, if◌then◌else◌, ◌==◌, List, [], ◌∷◌}
use Rattle.std.specs.Prelude.{replicate, reverse}
use Rattle.std.specs.List.{list_all}

-- this many blanks
unfoldable pub blanks : ℕ → List ℕ
blanks n = replicate n 32

-- each byte is a blank
unfoldable pub are_blanks : List ℕ → Bool
are_blanks text = list_all (λ byte. byte == 32) text

-- the text without the blanks at its front
unfoldable pub trimmed_front : List ℕ → List ℕ
trimmed_front [] = []
trimmed_front (byte ∷ text) = if byte == 32 then trimmed_front text else byte ∷ text

-- the text without the blanks at its end, which are at the front of the text read backwards
unfoldable pub trimmed_end : List ℕ → List ℕ
trimmed_end text = reverse (trimmed_front (reverse text))

-- the text without the blanks at both ends
unfoldable pub trimmed : List ℕ → List ℕ
trimmed text = trimmed_end (trimmed_front text)

-- the middle is what stands between the blanks at both ends of the text: it neither begins nor ends with a blank
pub record IsTrimmed (text middle : List ℕ) : Type 0 where
  pub before : ℕ
  pub after : ℕ
  pub parts : text ≡ blanks before ++ (middle ++ blanks after)
  pub first : slice_index middle 0 ≢ 32
  pub last : slice_index middle (length middle - 1) ≢ 32
