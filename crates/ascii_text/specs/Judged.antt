-- How a reader of texts answers. A text spells parts, or it spells nothing. A judge says of parts what the answer is.
use Rattle.std.specs.Prelude.{◌≡◌, ◌⊎◌, Option, Some, None, Result, Err}

-- the judge's word on what was read, or `wrong` where nothing was
unfoldable pub answer_of : {P V F : Type 0} → (P → Result V F) → F → Option P → Result V F
answer_of judge wrong None = Err wrong
answer_of judge wrong (Some parts) = judge parts

-- no parts are spelled by the text
abbrev pub SpellsNothing : {T P : Type 0} → (P → T → Type 0) → T → Type 0
SpellsNothing {P = P} spells text = (parts : P) → spells parts text → ⊥

-- the answer is the judge's word on parts that the text spells, or `wrong` where it spells nothing
abbrev pub Answers : {T P V F : Type 0} → (P → T → Type 0) → (P → Result V F) → F → T → Result V F → Type 0
Answers {P = P} spells judge wrong text result =
    ((parts : P) × spells parts text × (result ≡ judge parts)) ⊎ (SpellsNothing spells text × (result ≡ Err wrong))

-- what is spelled is read, and what is read is spelled
pub record IsReader {T P : Type 0} (spells : P → T → Type 0) (read : T → Option P) : Type 0 where
  pub again : (parts : P) (text : T) → spells parts text → read text ≡ Some parts
  pub takes : (text : T) (parts : P) → read text ≡ Some parts → spells parts text
