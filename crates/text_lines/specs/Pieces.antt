-- A text that comes in pieces: the lines that line feeds have ended so far, and the rest, which isn't finished.
use Rattle.std.specs.Prelude.{ℕ, ◌==◌, List, [], ◌∷◌, ◌++◌, map}
use Rattle.std.specs.List.{slice_split}
use Rattle.std.specs.Str.Lines.{lines, strip_carriage_return}
use Rattle.ascii_text.specs.Bytes.{line_feed}

-- what stands between the line feeds of a text
abbrev pub parts : List ℕ → List (List ℕ)
parts text = slice_split (λ byte. byte == line_feed) text

-- all parts but the last
abbrev pub front_parts : List (List ℕ) → List (List ℕ)
front_parts [] = []
front_parts (part ∷ []) = []
front_parts (part ∷ next ∷ more) = part ∷ front_parts (next ∷ more)

-- the last part
abbrev pub last_part : List (List ℕ) → List ℕ
last_part [] = []
last_part (part ∷ []) = part
last_part (part ∷ next ∷ more) = last_part (next ∷ more)

-- the lines of a text that a line feed ends
unfoldable pub complete_lines : List ℕ → List (List ℕ)
complete_lines text = map strip_carriage_return (front_parts (parts text))

-- what stands after the last line feed of a text, the whole text where it has none: the line that isn't finished
unfoldable pub unfinished : List ℕ → List ℕ
unfinished text = last_part (parts text)

-- the pieces, one after the other
abbrev pub joined : List (List ℕ) → List ℕ
joined [] = []
joined (piece ∷ pieces) = piece ++ joined pieces

-- how far a text was cut into lines: those that are complete, and the rest
pub record Cut : Type 0 where
  pub lines : List (List ℕ)
  pub rest : List ℕ

-- how far a text is cut, of which nothing came yet
abbrev pub uncut : Cut
uncut = record { lines = []; rest = [] }

-- how far a text is cut that is all that came
abbrev pub cut_of : List ℕ → Cut
cut_of text = record { lines = complete_lines text; rest = unfinished text }

-- One more piece came: its line feeds end lines, the first of which began in the rest.
abbrev pub cut_on : Cut → List ℕ → Cut
cut_on cut piece = record {
  lines = cut.lines ++ complete_lines (cut.rest ++ piece);
  rest = unfinished (cut.rest ++ piece);
}

-- the pieces came, in their order
abbrev pub cut_all : Cut → List (List ℕ) → Cut
cut_all cut [] = cut
cut_all cut (piece ∷ pieces) = cut_all (cut_on cut piece) pieces

-- all lines of a text that was cut so far and ends here: the rest is a line where it isn't empty
abbrev pub all_lines : Cut → List (List ℕ)
all_lines cut = cut.lines ++ lines cut.rest
