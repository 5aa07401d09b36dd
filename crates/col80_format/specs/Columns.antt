-- The columns of a line, counted from 1.
use Rattle.std.specs.Prelude.{ℕ, ◌-◌, ◌==◌, if◌then◌else◌, List, slice_index, slice_range}
use Rattle.ascii_text.specs.Bytes.{blank}
use Rattle.obs_record.specs.declared.sighting.Coded.{Coded}
use Rattle.obs_record.specs.declared.sighting.Coded.TheVariants.{Nothing, Letter}

-- the columns from a to b
abbrev pub columns : ℕ → ℕ → List ℕ → List ℕ
columns a b line = slice_range line (a - 1) b

-- the byte of one column
abbrev pub column : ℕ → List ℕ → ℕ
column a line = slice_index line (a - 1)

-- what the letter in a column says: nothing where it is blank
abbrev pub coded : ℕ → Coded
coded byte = if byte == blank then Nothing else Letter byte
