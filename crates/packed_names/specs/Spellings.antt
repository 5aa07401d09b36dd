-- A form gives each value a text; a text spells a value where it is that text.
use Rattle.std.specs.Prelude.{◌≡◌, ℕ, List}

-- the text is that of the value, which lies within these bounds
pub record Spells {P : Type 0} (IsWithin : P → Type 0) (text_of : P → List ℕ) (value : P) (text : List ℕ) : Type 0 where
  pub within : IsWithin value
  pub text_is : text ≡ text_of value

-- the text spells a value within these bounds
abbrev pub SpellsOne : {P : Type 0} → (P → Type 0) → (P → List ℕ) → List ℕ → Type 0
SpellsOne {P = P} IsWithin text_of text = (value : P) × Spells IsWithin text_of value text
