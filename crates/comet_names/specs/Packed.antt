-- Comets as the Minor Planet Center packs them, into eight characters: `CJ95O010`.
use Rattle.std.specs.Prelude.{ℕ, ◌/◌, ◌%◌, ◌≤◌, ◌<◌, ◌==◌, if◌then◌else◌, List, [], ◌∷◌, ◌++◌}
use Rattle.ascii_text.specs.declared.digits.Radix.TheVariants.{Ten}
use Rattle.ascii_text.specs.Digits.{digits_text}
use Rattle.packed_names.specs.Letters.{letter_of}
use Rattle.packed_names.specs.Spellings.{Spells, SpellsOne}
use Rattle.comet_names.specs.declared.comet.Comet.{Comet}
use Rattle.comet_names.specs.Kinds.{kind_letter}
use Rattle.comet_names.specs.Ranges.{IsComet}

-- the letters of centuries: I for 18, J for 19, K for 20
abbrev pub century_letter : ℕ → ℕ
century_letter century = if century == 18 then 73 else (if century == 19 then 74 else 75)

-- Letter of the kind, century letter, two digits of the year, half-month letter, two digits of the number, and `0`.
unfoldable pub packed_comet : Comet → List ℕ
packed_comet comet =
    kind_letter comet.kind ∷ century_letter (comet.half.year / 100) ∷ digits_text Ten 2 (comet.half.year % 100)
    ++ (letter_of comet.half.index ∷ digits_text Ten 2 comet.number ++ (48 ∷ []))

-- the comet is packed as the text
abbrev pub IsCometPackedAs : Comet → List ℕ → Type 0
IsCometPackedAs comet text = Spells IsComet packed_comet comet text

-- the text is the packed form of a comet
abbrev pub IsPackedComet : List ℕ → Type 0
IsPackedComet text = SpellsOne IsComet packed_comet text

-- Values that a packed text can show: the years of the three centuries, and numbers of two digits. Of them the years
-- before 1925 and the number 0 are out of the ranges of comets.
pub record FitsPackedComet (comet : Comet) : Type 0 where
  pub year_from : 1800 ≤ comet.half.year
  pub year_to : comet.half.year ≤ 2099
  pub index : comet.half.index < 24
  pub number : comet.number ≤ 99

-- the text has the shape of a packed comet
abbrev pub HasPackedCometShape : List ℕ → Type 0
HasPackedCometShape text = SpellsOne FitsPackedComet packed_comet text
