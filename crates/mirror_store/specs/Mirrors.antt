-- What a mirror keeps and gives.
use Rattle.std.specs.Prelude.{◌≡◌, ℤ, int_lt, int_le, Bool, ◌&&◌, if◌then◌else◌, List, [], ◌∷◌, filter, Option, Some}
use Rattle.std.specs.List.Sorted.{IsPermutation, IsSorted}
use Rattle.std.specs.Option.{option_map}
use Rattle.std.specs.Ordering.{ordering_then, nat_cmp, int_cmp, is_lt}
use Rattle.std.specs.declared.cmp.Ordering.{Ordering}
use Rattle.mirror_store.specs.declared.rows.ObjectRow.{ObjectRow}
use Rattle.mirror_store.specs.declared.rows.SightRow.{SightRow}
use Rattle.mirror_store.specs.declared.rows.MirrorRows.{MirrorRows}

-- ---- the observations of some time

-- it was observed from the one moment on, and before the other
abbrev pub is_between : ℤ → ℤ → SightRow → Bool
is_between from to row = int_le from row.time && int_lt row.time to

-- the order of time, ties by id
abbrev pub time_cmp : SightRow → SightRow → Ordering
time_cmp one other = ordering_then (int_cmp one.time other.time) (nat_cmp one.id other.id)

-- a row put in its place among others that stand by time, ties by id
abbrev pub placed_by_time : SightRow → List SightRow → List SightRow
placed_by_time row [] = row ∷ []
placed_by_time row (next ∷ more) =
    if is_lt (time_cmp next row) then next ∷ placed_by_time row more else row ∷ next ∷ more

-- rows by time, ties by id
abbrev pub by_time : List SightRow → List SightRow
by_time [] = []
by_time (row ∷ more) = placed_by_time row (by_time more)

-- those from the one moment on and before the other, by time, ties by id
abbrev pub between : ℤ → ℤ → List SightRow → List SightRow
between from to rows = by_time (filter (is_between from to) rows)

-- the list has the rows of this time and no others, each as often as they have it, by time, ties by id
pub record IsBetween (from to : ℤ) (rows sights : List SightRow) : Type 0 where
  pub same : IsPermutation (filter (is_between from to) rows) sights
  pub sorted : IsSorted time_cmp sights

-- ---- what is known of a mirror

-- these rows are in the place of those that were there, where they are known
abbrev pub IsReplaced : Option MirrorRows → Option MirrorRows → MirrorRows → Type 0
IsReplaced old new rows = new ≡ option_map (λ _. rows) old

-- the objects are those of the mirror
abbrev pub TellsObjects : Option MirrorRows → List ObjectRow → Type 0
TellsObjects told objects = (lists : MirrorRows) → told ≡ Some lists → objects ≡ lists.objects

-- the observations are those of the mirror in this time
abbrev pub TellsBetween : Option MirrorRows → ℤ → ℤ → List SightRow → Type 0
TellsBetween told from to sights = (lists : MirrorRows) → told ≡ Some lists → sights ≡ between from to lists.sights
