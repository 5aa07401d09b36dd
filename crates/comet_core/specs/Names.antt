-- The packed names of comets, and the designations that they lead to.
use Rattle.std.specs.Prelude.{◌≡◌, ℕ, ◌/◌, ◌%◌, ◌^◌, ◌<◌, max, if◌then◌else◌, bytes_eq, List, [], ◌∷◌, length}
use Rattle.std.specs.Prelude.{slice_index_or, ⊤, Option, Some, None}
use Rattle.std.specs.Simd.Lanes.{number_l}
use Rattle.place_keys.specs.Marks.{mixed}
use Rattle.packed_names.specs.declared.name.Designation.{Designation}
use Rattle.comet_core.specs.declared.names.KnownName.{KnownName}

-- the names, each of them once, and for how many more there is room
pub record NamesValue : Type 0 where
  pub names : List KnownName
  pub room : ℕ

-- the designation that a name leads to
abbrev pub object_of : List KnownName → List ℕ → Option Designation
object_of [] text = None
object_of (known ∷ more) text = if bytes_eq known.text text then Some known.object else object_of more text

-- each name stands there once
abbrev pub AreOnce : List KnownName → Type 0
AreOnce [] = ⊤
AreOnce (known ∷ more) = (object_of more known.text ≡ None) × AreOnce more

-- the name stands at this place
abbrev pub StandsAt : List KnownName → ℕ → List ℕ → Type 0
StandsAt names place text =
    (place < length names) × ((d : KnownName) → (slice_index_or names place d).text ≡ text)

-- a number from 1 that eight bytes make
abbrev pub text_mark : List ℕ → ℕ
text_mark text = max (mixed 0 (number_l 256 text % 2 ^ 64) / 2 ^ 32) 1

abbrev pub name_mark : KnownName → ℕ
name_mark known = text_mark known.text
