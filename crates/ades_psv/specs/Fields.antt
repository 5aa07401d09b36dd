-- A data line, cut into its fields.
use Rattle.std.specs.Prelude.{◌≡◌, ℕ, ◌<◌, List, length, slice_index_or, Some}
use Rattle.std.specs.Borrow.{Bor}
use Rattle.ades_psv.specs.declared.columns.Columns.{Columns}
use Rattle.ades_psv.specs.declared.fields.CutLine.{CutLine}
use Rattle.ades_psv.specs.declared.fields.Fields.{Fields as Cut}
use Rattle.ades_psv.specs.Cells.{cells, cell_in}

-- a data line, and what stands in its fields that are read
pub record Fields : Type 0 where
  -- the whole line
  pub line : List ℕ
  pub perm : List ℕ
  pub prov : List ℕ
  pub sub : List ℕ
  pub mode : List ℕ
  pub station : List ℕ
  pub time : List ℕ
  pub ra : List ℕ
  pub dec : List ℕ
  pub catalogue : List ℕ
  pub mag : List ℕ
  pub band : List ℕ
  -- how many fields the line has
  pub count : ℕ
  -- how many columns its header has
  pub columns : ℕ

-- the fields of a line below these columns
unfoldable pub fields_of : Columns → List ℕ → Fields
fields_of columns line = record {
  line = line;
  perm = cell_in columns.perm (cells line);
  prov = cell_in columns.prov (cells line);
  sub = cell_in columns.sub (cells line);
  mode = cell_in columns.mode (cells line);
  station = cell_in columns.station (cells line);
  time = cell_in columns.time (cells line);
  ra = cell_in columns.ra (cells line);
  dec = cell_in columns.dec (cells line);
  catalogue = cell_in columns.catalogue (cells line);
  mag = cell_in columns.mag (cells line);
  band = cell_in columns.band (cells line);
  count = length (cells line);
  columns = columns.count;
}

-- ---- as the code keeps them

-- this is the line, its first 16 cells, with nothing behind the last, and the number of all its cells
pub record AreCells (line : List ℕ) (cut : CutLine) : Type 0 where
  pub whole : cut.line.now ≡ line
  pub count : cut.count ≡ length (cells line)
  pub first : (k : ℕ) (d : Bor (List ℕ)) → k < 16 → (slice_index_or cut.first k d).now ≡ cell_in (Some k) (cells line)

-- what contracts see of the fields of a line
abbrev pub seen : Cut → Fields
seen cut = record {
  line = cut.line.now;
  perm = cut.perm.now;
  prov = cut.prov.now;
  sub = cut.sub.now;
  mode = cut.mode.now;
  station = cut.station.now;
  time = cut.time.now;
  ra = cut.ra.now;
  dec = cut.dec.now;
  catalogue = cut.catalogue.now;
  mag = cut.mag.now;
  band = cut.band.now;
  count = cut.count;
  columns = cut.columns;
}
