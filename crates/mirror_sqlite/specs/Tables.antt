-- The two tables of the mirror, and the rows that they store.
use Rattle.std.specs.Prelude.{ℕ, Bool, true, false, List, [], ◌∷◌, Some, codes}
use Rattle.sqlite.specs.Collation.TheVariants.{Binary}
use Rattle.sqlite.specs.declared.types.Value.TheVariants.{Null}
use Rattle.sqlite.specs.Table.{Table}
use Rattle.sqlite.specs.Schema.{Schema}
use Rattle.sqlite.specs.Kind.{Kind}
use Rattle.sqlite.specs.Kind.TheVariants.{Integer, Text}
use Rattle.sqlite_value.specs.Keys.{plain}
use Rattle.sqlite.specs.Change.{created}
use Rattle.sqlite_schema.specs.declared.schema.Column.{Column}

abbrev pub column_of : List ℕ → Kind → Bool → Column
column_of name kind needed =
    record { name = name; kind = kind; is_strict = true; not_null = needed; default = Null; collation = Binary }

abbrev pub object_table : Table
object_table = record {
  name = codes "object";
  tree = 0;
  columns =
      column_of (codes "place") Integer false
      ∷ column_of (codes "principal") Text true
      ∷ column_of (codes "number") Integer true
      ∷ column_of (codes "observations") Integer true
      ∷ [];
  key = Some 0;
  primary = 0 ∷ [];
  uniques = (2 ∷ []) ∷ [];
  orders = plain ∷ [];
  checks = [];
  references = [];
  computed = [];
  stamps = record { places = []; terms = []; formats = [] };
  is_counted = false;
}

abbrev pub sight_table : Table
sight_table = record {
  name = codes "sight";
  tree = 0;
  columns =
      column_of (codes "id") Integer false
      ∷ column_of (codes "object") Text true
      ∷ column_of (codes "time") Integer true
      ∷ column_of (codes "ra") Integer true
      ∷ column_of (codes "dec") Integer true
      ∷ column_of (codes "station") Text true
      ∷ [];
  key = Some 0;
  primary = 0 ∷ [];
  uniques = [];
  orders = [];
  checks = [];
  references = [];
  computed = [];
  stamps = record { places = []; terms = []; formats = [] };
  is_counted = false;
}

abbrev pub no_schema : Schema
no_schema = record { tables = []; indexes = []; views = [] }

abbrev pub object_schema : Schema
object_schema = created no_schema object_table

abbrev pub mirror_schema : Schema
mirror_schema = created object_schema sight_table
