-- The marks of a list's entries, oldest first, and the table in which they are found.
use Rattle.std.specs.Prelude.{◌≡◌, ◌≢◌, ℕ, ◌-◌, ◌^◌, ◌<◌, ◌≤◌, List, length, slice_index}
use Rattle.mark_index.specs.declared.table.Slot.{Slot}
use Rattle.mark_index.specs.Slots.{slot_of, slot_at, HasTag}

-- the mark of each entry, and for how many more entries there is room. Marks are numbers from 1: 0 stands for an entry
-- that has no mark, or none any more, and is never found
pub record Marked : Type 0 where
  pub marks : List ℕ
  pub room : ℕ

-- k is the number of the last of the first n entries whose marks are of slot s, counted from 1; 0 where there is none.
-- An entry without a mark is of no slot
pub record IsLast (slots : ℕ) (marks : List ℕ) (n s k : ℕ) : Type 0 where
  pub within : k ≤ n
  pub marked : 0 < k → 0 < slice_index marks (k - 1)
  pub of_slot : 0 < k → slot_of slots (slice_index marks (k - 1)) ≡ s
  pub none_later : (i : ℕ) → k ≤ i → i < n → 0 < slice_index marks i → slot_of slots (slice_index marks i) ≢ s

-- each entry with a mark has the number of the one before it in its slot, each slot that of its last entry and the tags
-- of all. Of an entry without a mark nothing is said: no chain leads to it
pub record AreChained (marks befores : List ℕ) (table : List Slot) : Type 0 where
  pub few : length marks < 2 ^ 32
  pub as_many : length befores ≡ length marks
  pub slots : 0 < length table
  pub before_is : (i : ℕ) → i < length marks → 0 < slice_index marks i
      → IsLast (length table) marks i (slot_of (length table) (slice_index marks i)) (slice_index befores i)
  pub head_is : (s : ℕ) → s < length table → IsLast (length table) marks (length marks) s (slot_at table s).head
  pub tagged : (i : ℕ) → i < length marks → 0 < slice_index marks i
      → HasTag (slot_at table (slot_of (length table) (slice_index marks i))).tags (slice_index marks i)
