-- Tables of conditions, of which the first row that holds decides; and questions, each answered by what it finds or by
-- a refusal.
use Rattle.std.specs.Prelude.{◌≡◌, ◌⊎◌, Bool, if◌then◌else◌, List, [], ◌∷◌, Option, Some, None, Result, Ok, Err}
use Rattle.act_model.specs.declared.reply.Refusal.{Refusal}
use Rattle.act_model.specs.declared.reply.Refusal.TheVariants.{NoMemory}

abbrev pub first_row : {A : Type 0} → List (Bool × A) → Option A
first_row [] = None
first_row (row ∷ rows) = if row.0 then Some row.1 else first_row rows

-- a refusal is the answer; without one it goes on
abbrev pub unless : {A : Type 0} → Option Refusal → Result A Refusal → Result A Refusal
unless (Some refusal) goes_on = Err refusal
unless None goes_on = goes_on

infixl 10 ◌>>=◌
-- one question after the other: the next one takes what was found
abbrev pub ◌>>=◌ : {A B : Type 0} → Result A Refusal → (A → Result B Refusal) → Result B Refusal
(Ok found) >>= next = next found
(Err refusal) >>= next = Err refusal

-- the answer is the one that is due, or 'out of memory' in its place
abbrev pub IsDue : {A : Type 0} → Result A Refusal → Result A Refusal → Type 0
IsDue due (Ok found) = due ≡ Ok found
IsDue due (Err refusal) = (due ≡ Err refusal) ⊎ (refusal ≡ NoMemory)
