-- The entries of a register, and the index of the numbers that were used.
use Rattle.std.specs.Prelude.{◌≡◌, ℕ, ◌-◌, ◌^◌, min, List, length, Option}
use Rattle.std.specs.List.{AllByRecursion}
use Rattle.std.specs.Option.{option_map}
use Rattle.std.specs.declared.cmp.Ordering.{Ordering}
use Rattle.ordered_list.specs.Orders.{found}
use Rattle.act_model.specs.declared.entry.Entry.{Entry}
use Rattle.act_model.specs.History.{numbered_entry}
use Rattle.act_model.specs.Refusals.{bytes_used}
use Rattle.comet_core.specs.declared.book.UsedNumber.{UsedNumber}

-- the entries, the newest first, and for how many more there is room
pub record BookValue : Type 0 where
  pub items : List Entry
  pub room : ℕ

-- the place, counted from 0 at the oldest entry, of the newest entry with this number
abbrev pub place_of : List Entry → ℕ → Option ℕ
place_of entries number = option_map (λ k. length k.before) (numbered_entry entries 0 number)

-- the item of the index that finds the one of a number
abbrev pub number_key : ℕ → UsedNumber
number_key number = record { number = number; place = 0 }

-- the place that an item gives
abbrev pub place_in : Option UsedNumber → Option ℕ
place_in item = option_map (λ n. n.place) item

-- each entry is the founding officer's
abbrev pub AreFounders : List Entry → Type 0
AreFounders entries = AllByRecursion (λ entry. entry.caller ≡ 0) entries

-- Each entry is the founding officer's. Each number finds the place of the newest entry that has it, and nothing where
-- no entry has. This many bytes of a journal the entries take, as far as that is a number of the type.
pub record IsKept (cmp : UsedNumber → UsedNumber → Ordering) (numbers : List UsedNumber) (entries : List Entry)
    (bytes : ℕ) : Type 0 where
  pub founders : AreFounders entries
  pub indexed : (number : ℕ) → place_in (found cmp (number_key number) numbers) ≡ place_of entries number
  pub bytes_are : bytes ≡ min (bytes_used entries) (2 ^ 64 - 1)
