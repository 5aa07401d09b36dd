-- Lists that stand newest first. Items are numbered from 1 in the order in which they came: the number of an item is
-- one more than how many are older.
use Rattle.std.specs.Prelude.{ℕ, ◌+◌, ◌==◌, List, [], ◌∷◌, length, Option, Some, None, if◌then◌else◌}

-- the number of the item that comes next
abbrev pub next_number : {A : Type 0} → List A → ℕ
next_number items = length items + 1

-- the item with this number
abbrev pub numbered : {A : Type 0} → List A → ℕ → Option A
numbered [] number = None
numbered (newest ∷ older) number = if number == next_number older then Some newest else numbered older number

-- the list with a change to the item that has this number
abbrev pub changed_at : {A : Type 0} → (A → A) → List A → ℕ → List A
changed_at change [] number = []
changed_at change (newest ∷ older) number =
    if number == next_number older then change newest ∷ older else newest ∷ changed_at change older number
