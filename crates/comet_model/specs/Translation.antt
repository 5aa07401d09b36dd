-- Batches of 80-column lines in which objects' designations stand in the place of comets' names.
use Rattle.std.specs.Prelude.{ℕ, ◌==◌, ◌&&◌, if◌then◌else◌, bytes_eq, List, [], ◌∷◌, ◌++◌, length, drop}
use Rattle.std.specs.Prelude.{codes, Option, Some, None}
use Rattle.std.specs.Str.Lines.{strip_carriage_return}
use Rattle.ascii_text.specs.Blanks.{are_blanks}
use Rattle.text_lines.specs.Pieces.{parts}
use Rattle.packed_names.specs.declared.name.Designation.{Designation}
use Rattle.col80_format.specs.Columns.{columns}
use Rattle.act_model.specs.Texts.{packed_designation}
use Rattle.comet_model.specs.declared.named.NamedComet.{NamedComet}
use Rattle.comet_model.specs.Texts.{packed_comet_text}

-- the object whose comet has this packed name
abbrev pub object_named : List NamedComet → List ℕ → Option Designation
object_named [] name = None
object_named (named ∷ past) name =
    if bytes_eq (packed_comet_text named.comet) name then Some named.object else object_named past name

-- the object whose comet a line names: a line of 80 bytes with blanks in columns 1 to 4 and the packed name in columns
-- 5 to 12
unfoldable pub object_in : List NamedComet → List ℕ → Option Designation
object_in comets line =
    if (length line == 80) && are_blanks (columns 1 4 line) then object_named comets (columns 5 12 line) else None

-- a line with the packed designation of an object in columns 6 to 12, and a blank in column 5; all other columns stay
abbrev pub line_with : Option Designation → List ℕ → List ℕ
line_with None line = line
line_with (Some d) line = columns 1 4 line ++ codes " " ++ packed_designation d ++ drop 12 line

-- a line with its object's designation in the place of the comet's name, or as it is where it names none
unfoldable pub translated_line : List NamedComet → List ℕ → List ℕ
translated_line comets line = line_with (object_in comets line) line

-- what stands before a line feed: a line, and a carriage return at its end where there is one
abbrev pub translated_part : List NamedComet → List ℕ → List ℕ
translated_part comets part =
    translated_line comets (strip_carriage_return part) ++ drop (length (strip_carriage_return part)) part

-- what stands between the line feeds of a text, each translated: after the last one a line alone
abbrev pub translated_parts : List NamedComet → List (List ℕ) → List ℕ
translated_parts comets [] = []
translated_parts comets (part ∷ []) = translated_line comets part
translated_parts comets (part ∷ next ∷ more) =
    translated_part comets part ++ 10 ∷ translated_parts comets (next ∷ more)

-- a batch, line by line; every line end stays
unfoldable pub translation : List NamedComet → List ℕ → List ℕ
translation comets body = translated_parts comets (parts body)
