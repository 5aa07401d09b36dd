-- What calls of the outside do to the bytes that it tells.
use Rattle.std.specs.Prelude.{ℕ, ◌<◌, List, length, take}
use Rattle.std.specs.declared.option.Option.{Option}
use Rattle.std.specs.Io.KnownBytes.{Appends}

-- known bytes grew by a proper front of the piece
abbrev pub AppendsPart : Option (List ℕ) → Option (List ℕ) → List ℕ → Type 0
AppendsPart old new piece = (n : ℕ) × (n < length piece) × Appends old new (take n piece)
