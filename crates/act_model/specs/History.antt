-- The office's history: its entries, the newest first. All that the office answers is worked out from it.
use Rattle.std.specs.Prelude.{◌≡◌, ℕ, ◌+◌, ℤ, int_lt, Bool, ◌&&◌, ◌==◌, if◌then◌else◌, List, [], ◌∷◌, length, Option}
use Rattle.std.specs.Prelude.{Some, None}
use Rattle.act_model.specs.declared.entry.Entry.{Entry}

-- the receipt of the entry that comes next: its place in the history, counted from 1
abbrev pub next_receipt : List Entry → ℕ
next_receipt past = length past + 1

-- the moment of the entry that comes next: the clock's reading, but never before the last entry's moment
abbrev pub next_moment : List Entry → ℤ → ℤ
next_moment [] reading = reading
next_moment (last ∷ past) reading = if int_lt reading last.moment then last.moment else reading

-- an entry of this caller with this number
abbrev pub is_numbered : ℕ → ℕ → Entry → Bool
is_numbered caller number entry = (entry.caller == caller) && (entry.number == number)

-- an entry, and the history before it
pub record Kept : Type 0 where
  pub entry : Entry
  pub before : List Entry

-- the entry that the caller's number stands for, where the caller has used the number
abbrev pub numbered_entry : List Entry → ℕ → ℕ → Option Kept
numbered_entry [] caller number = None
numbered_entry (entry ∷ before) caller number =
    if is_numbered caller number entry then Some (record { entry = entry; before = before })
    else numbered_entry before caller number

-- no entry before has the caller and number of this one
abbrev pub IsUnused : List Entry → Entry → Type 0
IsUnused past entry = numbered_entry past entry.caller entry.number ≡ None

-- no two entries have the same caller and number
abbrev pub EachNumberOnce : List Entry → Type 0
EachNumberOnce [] = Unit {0}
EachNumberOnce (entry ∷ past) = IsUnused past entry × EachNumberOnce past
