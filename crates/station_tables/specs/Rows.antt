-- The rows of the office's tables, in the order in which they were entered.
use Rattle.std.specs.Prelude.{ℕ, ℤ, List, []}
use Rattle.obs_record.specs.declared.short.Short.{Short}
use Rattle.station_tables.specs.declared.kind.Kind.{Kind}

-- a station's code, of 3 bytes, and the first and the last day on which it serves, as days from 1970-01-01
pub record StationRow : Type 0 where
  pub code : List ℕ
  pub from : ℤ
  pub to : ℤ

-- a letter and a word that stand for the same thing of a kind
pub record CodeRow : Type 0 where
  pub kind : Kind
  pub letter : ℕ
  pub word : Short

-- both tables
pub record TableRows : Type 0 where
  pub stations : List StationRow
  pub codes : List CodeRow

-- no rows
abbrev pub no_rows : TableRows
no_rows = record { stations = []; codes = [] }
