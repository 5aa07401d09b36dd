-- What a mirror over a database in memory keeps.
use Rattle.std.specs.Prelude.{◌≡◌, ℕ, false, map, Option, Some, None}
use Rattle.sqlite.specs.State.{State}
use Rattle.sqlite.specs.Held.{Held, state}
use Rattle.sqlite.specs.Steps.{over_memory}
use Rattle.sqlite_trees.specs.declared.memory.MemStore.{MemStore}
use Rattle.mirror_store.specs.declared.rows.MirrorRows.{MirrorRows}
use Rattle.mirror_store.specs.Rows.{AreReplaceable}
use Rattle.mirror_sqlite.specs.Stored.{object_in, sight_in}
use Rattle.mirror_sqlite.specs.Holding.{Holds, no_rows}

-- the rows of `object` by place and of `sight` by id
abbrev pub tables : State → MirrorRows
tables s = record { objects = map object_in (s.now.trees 0); sights = map sight_in (s.now.trees 2) }

-- A connection between two calls: no transaction is open, and its tables hold rows as a mirror asks them.
pub record IsReady (conn : Held MemStore) : Type 0 where
  pub autocommit : conn.in_transaction ≡ false
  pub held : Holds (state over_memory conn) (tables (state over_memory conn))
  pub rows : AreReplaceable (tables (state over_memory conn))

-- the two lists, which are empty until the tables are made
abbrev pub lists_of : Option (Held MemStore) → MirrorRows
lists_of None = no_rows
lists_of (Some conn) = tables (state over_memory conn)

-- its two lists and its count of faults
pub record SqlState : Type 0 where
  pub lists : MirrorRows
  pub faults : ℕ
