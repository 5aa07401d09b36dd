-- The rows of the mirror as the tables store them, and as the queries show them.
use Rattle.std.specs.Prelude.{ℕ, ℤ, pos, ◌-◌, List, [], ◌∷◌, ◌++◌, length, take, replicate}
use Rattle.packed_names.specs.declared.label.Label.{Label}
use Rattle.obs_record.specs.declared.short.Short.{Short}
use Rattle.sqlite.specs.declared.types.Value.{Value}
use Rattle.sqlite.specs.declared.types.Value.TheVariants.{Null, Int, Text}
use Rattle.sqlite.specs.Order.{Row, column}
use Rattle.mirror_store.specs.declared.rows.ObjectRow.{ObjectRow}
use Rattle.mirror_store.specs.declared.rows.SightRow.{SightRow}

abbrev pub name_text : Label → List ℕ
name_text label = take label.len label.bytes

abbrev pub code_text : Short → List ℕ
code_text code = take code.len code.bytes

-- its place is its rowid, and its column stays empty
abbrev pub stored_object : ObjectRow → Row
stored_object row =
    Int (pos row.place) ∷ Null ∷ Text (name_text row.principal) ∷ Int (pos row.number) ∷ Int (pos row.observations) ∷ []

-- its id is its rowid, and its column stays empty
abbrev pub stored_sight : SightRow → Row
stored_sight row =
    Int (pos row.id) ∷ Null ∷ Text (name_text row.object) ∷ Int row.time ∷ Int row.ra ∷ Int row.dec
    ∷ Text (code_text row.station) ∷ []

abbrev pub shown_object : ObjectRow → Row
shown_object row =
    Int (pos row.place) ∷ Text (name_text row.principal) ∷ Int (pos row.number) ∷ Int (pos row.observations) ∷ []

abbrev pub shown_sight : SightRow → Row
shown_sight row =
    Int (pos row.id) ∷ Text (name_text row.object) ∷ Int row.time ∷ Int row.ra ∷ Int row.dec
    ∷ Text (code_text row.station) ∷ []

-- ---- what the tables store, read as rows of the mirror; a row of another shape reads as some row

abbrev pub count_in : Value → ℕ
count_in (Int (pos n)) = n
count_in _ = 0

abbrev pub integer_in : Value → ℤ
integer_in (Int n) = n
integer_in _ = pos 0

abbrev pub text_in : Value → List ℕ
text_in (Text text) = text
text_in _ = []

abbrev pub label_in : Value → Label
label_in value =
    record { len = length (text_in value); bytes = text_in value ++ replicate (13 - length (text_in value)) 0 }

abbrev pub code_in : Value → Short
code_in value =
    record { len = length (text_in value); bytes = text_in value ++ replicate (12 - length (text_in value)) 0 }

abbrev pub object_in : Row → ObjectRow
object_in row =
    record {
      place = count_in (column row 0);
      principal = label_in (column row 2);
      number = count_in (column row 3);
      observations = count_in (column row 4);
    }

abbrev pub sight_in : Row → SightRow
sight_in row =
    record {
      id = count_in (column row 0);
      object = label_in (column row 2);
      time = integer_in (column row 3);
      ra = integer_in (column row 4);
      dec = integer_in (column row 5);
      station = code_in (column row 6);
    }
