-- The columns that a column header names.
use Rattle.std.specs.Prelude.{ℕ, Bool, false, not, ◌&&◌, ◌||◌, if◌then◌else◌, ◌==◌, List, [], ◌∷◌, length, codes}
use Rattle.std.specs.Prelude.{Option, is_some, Result, Ok, Err}
use Rattle.std.specs.Borrow.{Bor}
use Rattle.std.specs.BTreeSet.{BTreeSet, contains_by}
use Rattle.std.specs.Cmp.Lexicographic.{slice_cmp}
use Rattle.std.specs.Ordering.{nat_cmp}
use Rattle.std.specs.List.{list_any, position_from}
use Rattle.obs_record.specs.declared.rule.HeaderFault.{HeaderFault}
use Rattle.obs_record.specs.declared.rule.HeaderFault.TheVariants.{H3, H4, H5}
use Rattle.ades_psv.specs.declared.columns.Columns.{Columns}
use Rattle.ades_psv.specs.Cells.{is_word, cells}

-- where the column of this name stands, counted from 0
abbrev pub place_of : List ℕ → List (List ℕ) → Option ℕ
place_of name names = position_from (is_word name) 0 names

-- a column has this name
abbrev pub has_column : List ℕ → List (List ℕ) → Bool
has_column name names = list_any (is_word name) names

-- the name isn't empty, and stands among the others
abbrev pub stands_again : List ℕ → List (List ℕ) → Bool
stands_again name others = not (length name == 0) && has_column name others

-- a name that isn't empty stands twice
unfoldable pub has_twice : List (List ℕ) → Bool
has_twice [] = false
has_twice (name ∷ names) = stands_again name names || has_twice names

-- the set has this text
abbrev pub is_seen : BTreeSet (Bor (List ℕ)) → List ℕ → Bool
is_seen seen name = contains_by (λ key. slice_cmp nat_cmp name key.now) seen

-- a name that isn't empty was seen before, or stands twice
unfoldable pub repeats : (List ℕ → Bool) → List (List ℕ) → Bool
repeats seen [] = false
repeats seen (name ∷ names) = (not (length name == 0) && (seen name || has_column name names)) || repeats seen names

-- where the columns that are read stand, and how many columns there are
unfoldable pub columns_named : List (List ℕ) → Columns
columns_named names = record {
  perm = place_of (codes "permID") names;
  prov = place_of (codes "provID") names;
  sub = place_of (codes "trkSub") names;
  mode = place_of (codes "mode") names;
  station = place_of (codes "stn") names;
  time = place_of (codes "obsTime") names;
  ra = place_of (codes "ra") names;
  dec = place_of (codes "dec") names;
  catalogue = place_of (codes "astCat") names;
  mag = place_of (codes "mag") names;
  band = place_of (codes "band") names;
  count = length names;
}

-- these columns, or the first of H3, H4 and H5 that their names break
abbrev pub columns_or_rule : Columns → List (List ℕ) → Result Columns HeaderFault
columns_or_rule columns names =
    if not (is_some columns.ra && is_some columns.dec) then Err H3
    else (if has_column (codes "pos1") names then Err H4
    else (if has_twice names then Err H5 else Ok columns))

-- the columns of a column header, or the first rule that it breaks
unfoldable pub columns_of : List ℕ → Result Columns HeaderFault
columns_of line = columns_or_rule (columns_named (cells line)) (cells line)
