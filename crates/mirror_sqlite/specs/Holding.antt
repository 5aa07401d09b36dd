-- What the two tables of a connection hold.
use Rattle.std.specs.Prelude.{◌≡◌, ◌<◌, ℤ, List, [], ◌∷◌, ◌++◌, map, IsTrue}
use Rattle.std.specs.List.{AllByRecursion}
use Rattle.sqlite.specs.State.{State, KeepsCommit}
use Rattle.mirror_store.specs.declared.rows.ObjectRow.{ObjectRow}
use Rattle.mirror_store.specs.declared.rows.SightRow.{SightRow}
use Rattle.mirror_store.specs.declared.rows.MirrorRows.{MirrorRows}
use Rattle.mirror_store.specs.Rows.{IsObjectRow, IsSightRow, Ascend}
use Rattle.mirror_store.specs.Mirrors.{between}
use Rattle.mirror_sqlite.specs.Tables.{mirror_schema}
use Rattle.mirror_sqlite.specs.Stored.{stored_object, stored_sight}

-- The tables are the mirror's, and hold the rows of these two lists.
pub record Holds (s : State) (lists : MirrorRows) : Type 0 where
  pub schema : s.now.schema ≡ mirror_schema
  pub objects : s.now.trees 0 ≡ map stored_object lists.objects
  pub sights : s.now.trees 2 ≡ map stored_sight lists.sights

-- two empty lists
abbrev pub no_rows : MirrorRows
no_rows = record { objects = []; sights = [] }

-- all observations are gone
abbrev pub LosesSights : State → State → Type 0
LosesSights old new = (lists : MirrorRows) → Holds old lists → Holds new (record lists { sights = [] })

-- all objects are gone
abbrev pub LosesObjects : State → State → Type 0
LosesObjects old new = (lists : MirrorRows) → Holds old lists → Holds new (record lists { objects = [] })

-- an object at a greater place than all that were there stands at the end
abbrev pub GainsObject : ObjectRow → State → State → Type 0
GainsObject row old new =
    (lists : MirrorRows) → Holds old lists
    → AllByRecursion (λ (other : ObjectRow). other.place < row.place) lists.objects
    → Holds new (record lists { objects = lists.objects ++ row ∷ [] })

-- an observation with a greater id than all that were there stands at the end
abbrev pub GainsSight : SightRow → State → State → Type 0
GainsSight row old new =
    (lists : MirrorRows) → Holds old lists → AllByRecursion (λ (other : SightRow). other.id < row.id) lists.sights
    → Holds new (record lists { sights = lists.sights ++ row ∷ [] })

-- ---- what queries give

-- the objects are those that the tables hold, which are in range and stand by place
abbrev pub ListsObjects : State → List ObjectRow → Type 0
ListsObjects s objects =
    (lists : MirrorRows) → Holds s lists → AllByRecursion IsObjectRow lists.objects
    → Ascend (map (λ (row : ObjectRow). row.place) lists.objects) → objects ≡ lists.objects

-- the observations are those of this time that the tables hold, which are in range and stand by id
abbrev pub ListsSights : ℤ → ℤ → State → List SightRow → Type 0
ListsSights from to s sights =
    (lists : MirrorRows) → Holds s lists → AllByRecursion IsSightRow lists.sights
    → Ascend (map (λ (row : SightRow). row.id) lists.sights) → sights ≡ between from to lists.sights

-- with nothing to be undone, the tables hold what they held
abbrev pub KeepsTables : State → State → Type 0
KeepsTables old new = (lists : MirrorRows) → Holds old lists → old.now ≡ old.committed → IsTrue new.is_open
    → Holds new lists

-- ---- steps of a transaction

-- the transaction goes on, and the last commit is what it was
pub record Goes (old new : State) : Type 0 where
  pub going : IsTrue new.in_transaction
  pub kept : KeepsCommit old new

-- these objects stand in a table that was empty
abbrev pub FillsObjects : List ObjectRow → State → State → Type 0
FillsObjects rows old new =
    (lists : MirrorRows) → Holds old lists → lists.objects ≡ [] → Holds new (record lists { objects = rows })

-- these observations stand in a table that was empty
abbrev pub FillsSights : List SightRow → State → State → Type 0
FillsSights rows old new =
    (lists : MirrorRows) → Holds old lists → lists.sights ≡ [] → Holds new (record lists { sights = rows })

-- whatever was there, the tables hold these rows
abbrev pub Replaces : MirrorRows → State → State → Type 0
Replaces rows old new = (lists : MirrorRows) → Holds old lists → Holds new rows
