-- Reading comets: the values that a text shows, or nothing where it has no shape.
use Rattle.std.specs.Prelude.{ℕ, nat_le, ◌==◌, if◌then◌else◌, List, [], ◌∷◌, length, take, drop, Option, Some, None}
use Rattle.std.specs.Prelude.{option_map}
use Rattle.ascii_text.specs.declared.digits.Radix.TheVariants.{Ten}
use Rattle.ascii_text.specs.Reading.{◌>>=◌, digits_at, behind, number_at}
use Rattle.packed_names.specs.Ends.{whole}
use Rattle.packed_names.specs.PrintedReading.{half_in}
use Rattle.comet_names.specs.declared.comet.Comet.{Comet}
use Rattle.comet_names.specs.declared.parts.Parts.{Parts}
use Rattle.comet_names.specs.Kinds.{kind_of}

-- the two digits of the century that a letter stands for: I for 18, J for 19, K for 20
unfoldable pub century_digits : ℕ → Option (ℕ × ℕ)
century_digits letter =
    if letter == 73 then Some (49, 56)
    else (if letter == 74 then Some (49, 57) else (if letter == 75 then Some (50, 48) else None))

-- a packed half-month is put into its printed form
unfoldable pub packed_parts : List ℕ → Option Parts
packed_parts (kind ∷ century ∷ tens ∷ units ∷ letter ∷ text) = do
  kind ← kind_of kind
  digits ← century_digits century
  number ← digits_at Ten 2 text
  zero ← behind 48 number.1
  let half = digits.0 ∷ digits.1 ∷ tens ∷ units ∷ 32 ∷ letter ∷ [] in
      whole (record { kind = kind; half = half; number = number.0 }) zero
packed_parts text = None

-- the first six bytes, and the text after them
unfoldable pub six_at : List ℕ → Option (List ℕ × List ℕ)
six_at text = if nat_le 6 (length text) then Some (take 6 text, drop 6 text) else None

unfoldable pub printed_parts : List ℕ → Option Parts
printed_parts [] = None
printed_parts (kind ∷ text) = do
  kind ← kind_of kind
  slash ← behind 47 text
  half ← six_at slash
  number ← number_at 3 half.1
  whole (record { kind = kind; half = half.0; number = number.0 }) number.1

-- the comet of these parts, in range or not
unfoldable pub comet_of : Parts → Option Comet
comet_of parts =
    option_map (λ half. record { kind = parts.kind; half = half; number = parts.number }) (half_in parts.half)

-- the values of a packed comet
unfoldable pub packed_comet_in : List ℕ → Option Comet
packed_comet_in text = packed_parts text >>= comet_of

-- the values of a printed comet
unfoldable pub printed_comet_in : List ℕ → Option Comet
printed_comet_in text = printed_parts text >>= comet_of
