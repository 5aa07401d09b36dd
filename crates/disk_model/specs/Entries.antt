-- How a record is kept: entries in the order of the calls, and the bytes of all writes, one after another.
use Rattle.std.specs.Prelude.{◌≡◌, ℕ, ◌+◌, ◌*◌, ◌<◌, ◌≤◌, List, length, take, drop, map, reverse, All, ⊤}
use Rattle.disk_model.specs.Memory.{Deed, record_size}
use Rattle.disk_model.specs.declared.record.Entry.{Entry}
use Rattle.disk_model.specs.declared.record.Entry.TheVariants.{Wrote, Cut, Synced}
use Rattle.disk_model.specs.Memory as deeds

-- the deed that an entry stands for
abbrev pub deed_of : List ℕ → Entry → Deed
deed_of pool (Wrote at start count done) = deeds.Wrote at (take count (drop start pool)) done
deed_of pool (Cut len done) = deeds.Cut len done
deed_of pool (Synced done) = deeds.Synced done

-- the deeds that entries stand for, the newest first
abbrev pub deeds_of : List ℕ → List Entry → List Deed
deeds_of pool entries = reverse (map (deed_of pool) entries)

-- an entry's bytes stand in a pool of this length, and have room in a file of this capacity
abbrev pub IsWithin : ℕ → ℕ → Entry → Type 0
IsWithin pool_length capacity (Wrote at start count done) =
    (start + count ≤ pool_length) × (0 < count → at + count ≤ capacity)
IsWithin pool_length capacity _ = ⊤

-- a record has the size that it counts, and no more than its capacity
pub record IsKept (pool : List ℕ) (entries : List Entry) (capacity : ℕ) : Type 0 where
  pub size : record_size (deeds_of pool entries) ≡ 32 * length entries + length pool
  pub fits : 32 * length entries + length pool ≤ capacity
  pub within : All (IsWithin (length pool) capacity) entries
