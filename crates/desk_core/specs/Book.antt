-- What was filed, and the index of the numbers that its callers have used.
use Rattle.std.specs.Prelude.{◌≡◌, ℕ, List, length, Option}
use Rattle.std.specs.Option.{option_map}
use Rattle.std.specs.declared.cmp.Ordering.{Ordering}
use Rattle.ordered_list.specs.Orders.{found}
use Rattle.act_model.specs.History.{numbered_entry}
use Rattle.desk_core.specs.declared.filed.Filed.{Filed}
use Rattle.desk_core.specs.declared.book.UsedNumber.{UsedNumber}
use Rattle.desk_core.specs.Filed.{history_of}

-- what was filed, the oldest entry first, and for how many more entries there is room
pub record BookValue : Type 0 where
  pub items : List Filed
  pub room : ℕ

-- the place, counted from 0 at the oldest entry, of the newest entry of this caller with this number
abbrev pub place_of : List Filed → ℕ → ℕ → Option ℕ
place_of filed caller number = option_map (λ k. length k.before) (numbered_entry (history_of filed) caller number)

-- an item of the index that finds the one of the caller's number
abbrev pub number_key : ℕ → ℕ → UsedNumber
number_key caller number = record { caller = caller; number = number; place = 0 }

-- the place that an item gives
abbrev pub place_in : Option UsedNumber → Option ℕ
place_in item = option_map (λ n. n.place) item

-- each caller and number finds the place of the newest entry that has them, and nothing where no entry has
abbrev pub IsIndexed : (UsedNumber → UsedNumber → Ordering) → List UsedNumber → List Filed → Type 0
IsIndexed cmp numbers filed =
    (caller number : ℕ) → place_in (found cmp (number_key caller number) numbers) ≡ place_of filed caller number
