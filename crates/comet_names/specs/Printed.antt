-- Comets as people print them: `C/1995 O1`.
use Rattle.std.specs.Prelude.{ℕ, ◌≤◌, List, ◌∷◌, ◌++◌}
use Rattle.std.specs.Fmt.{decimal}
use Rattle.packed_names.specs.Printed.{half_text, FitsPrintedHalf}
use Rattle.packed_names.specs.Spellings.{Spells, SpellsOne}
use Rattle.comet_names.specs.declared.comet.Comet.{Comet}
use Rattle.comet_names.specs.Kinds.{kind_letter}
use Rattle.comet_names.specs.Ranges.{IsComet}

-- Letter of the kind, slash, half-month, and the number without leading zeros.
unfoldable pub printed_comet : Comet → List ℕ
printed_comet comet = kind_letter comet.kind ∷ 47 ∷ half_text comet.half ++ decimal comet.number

-- the comet is printed as the text
abbrev pub IsCometPrintedAs : Comet → List ℕ → Type 0
IsCometPrintedAs comet text = Spells IsComet printed_comet comet text

-- the text is the printed form of a comet
abbrev pub IsPrintedComet : List ℕ → Type 0
IsPrintedComet text = SpellsOne IsComet printed_comet text

-- Values that a printed text can show: any year of four digits, and numbers of at most three. Most of them are out of
-- the ranges of comets.
pub record FitsPrintedComet (comet : Comet) : Type 0 where
  pub half : FitsPrintedHalf comet.half
  pub number : comet.number ≤ 999

-- the text has the shape of a printed comet
abbrev pub HasPrintedCometShape : List ℕ → Type 0
HasPrintedCometShape text = SpellsOne FitsPrintedComet printed_comet text
