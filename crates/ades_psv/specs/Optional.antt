-- A field that may be empty.
use Rattle.std.specs.Prelude.{◌≡◌, ℕ, Bool, ◌==◌, if◌then◌else◌, List, [], length, Option, Some, None, Result, Ok, Err}
use Rattle.obs_record.specs.declared.rule.RuleCode.{RuleCode}

-- what a field says: nothing where it is empty, else what it is read as
abbrev pub Says : {A : Type 0} → (List ℕ → A → Type 0) → List ℕ → Option A → Type 0
Says Reads text None = text ≡ []
Says Reads text (Some x) = Reads text x

-- the field is empty, or it is read
abbrev pub IsEmptyOr : {A : Type 0} → (List ℕ → A → Type 0) → List ℕ → Type 0
IsEmptyOr {A} Reads text = (said : Option A) × Says Reads text said

-- the text has nothing in it
abbrev pub is_empty : List ℕ → Bool
is_empty text = length text == 0

abbrev pub some_of : {A : Type 0} → Result A RuleCode → Result (Option A) RuleCode
some_of (Ok x) = Ok (Some x)
some_of (Err rule) = Err rule

-- what is read from a field that may be empty
abbrev pub unless_empty : {A : Type 0} → List ℕ → Result A RuleCode → Result (Option A) RuleCode
unless_empty text read = if is_empty text then Ok None else some_of read
