-- Where a mark is looked for, and what is kept there.
use Rattle.std.specs.Prelude.{◌≡◌, ℕ, ◌-◌, ◌/◌, ◌^◌, bit_and, List, get_or}
use Rattle.std.specs.Int.{bit_at}
use Rattle.mark_index.specs.declared.table.Slot.{Slot}

-- the slot of a mark, of this many
unfoldable pub slot_of : ℕ → ℕ → ℕ
slot_of slots mark = bit_and mark (slots - 1)

-- a mark's tag: its topmost five bits
abbrev pub tag_of : ℕ → ℕ
tag_of mark = mark / 2 ^ 27

-- a set of tags has that of a mark: the bit of that number is set
unfoldable pub HasTag : ℕ → ℕ → Type 0
HasTag tags mark = bit_at tags (tag_of mark) ≡ 1

-- what a table has at a place
abbrev pub slot_at : List Slot → ℕ → Slot
slot_at table s = get_or table s (record { head = 0; tags = 0 })
