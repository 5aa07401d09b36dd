-- What is written of the rows of a mirror.
use Rattle.std.specs.Prelude.{ℕ, ℤ, ◌==◌, nat_abs, if◌then◌else◌, List, ◌++◌, take, flat_map, codes, decimal}
use Rattle.ascii_text.specs.Blanks.{trimmed}
use Rattle.angle_fixed.specs.Degrees.{ra_degrees_text, dec_degrees_text}
use Rattle.obs_time.specs.Dates.{moment}
use Rattle.obs_time.specs.IsoText.{iso_text}
use Rattle.packed_names.specs.declared.label.Label.{Label}
use Rattle.act_model.specs.QueryTexts.{short_text}
use Rattle.act_model.specs.Texts.{line_of}
use Rattle.mirror_store.specs.declared.rows.ObjectRow.{ObjectRow}
use Rattle.mirror_store.specs.declared.rows.SightRow.{SightRow}
use Rattle.mirror_store.specs.declared.rows.MirrorRows.{MirrorRows}
use Rattle.mirror_store.specs.Mirrors.{between}

-- the characters of a label
abbrev pub label_text : Label → List ℕ
label_text label = take label.len label.bytes

-- ---- an object

-- a row's number, or `none` where it is 0
abbrev pub row_number : ℕ → List ℕ
row_number n = if n == 0 then codes "none" else decimal n

-- `object P number N observations M`
unfoldable pub object_line : ObjectRow → List ℕ
object_line row =
    line_of
    (codes "object " ++ label_text row.principal ++ codes " number " ++ row_number row.number ++ codes " observations "
    ++ decimal row.observations)

-- ---- an observation

-- `object P`, or `isolated` where the label is empty
abbrev pub row_object : Label → List ℕ
row_object label = if label.len == 0 then codes "isolated" else codes "object " ++ label_text label

-- the moment with nine decimals of the second, and the two angles in degrees with twelve decimals
abbrev pub row_position : SightRow → List ℕ
row_position row =
    iso_text row.time ++ codes " " ++ trimmed (ra_degrees_text (nat_abs row.ra)) ++ codes " "
    ++ dec_degrees_text row.dec

-- `obs K object P T X Y C`, or `obs K isolated T X Y C`
unfoldable pub sight_line : SightRow → List ℕ
sight_line row =
    line_of
    (codes "obs " ++ decimal row.id ++ codes " " ++ row_object row.object ++ codes " " ++ row_position row ++ codes " "
    ++ short_text row.station)

-- ---- all lines

-- the objects, and then the observations
abbrev pub rows_text : List ObjectRow → List SightRow → List ℕ
rows_text objects sights = flat_map object_line objects ++ flat_map sight_line sights

-- the first moment of a day
abbrev pub first_moment : ℤ → ℤ
first_moment day = moment day 0

-- all objects of two lists, and of their observations those from the first moment of the one day on and before the
-- first moment of the other, by time, ties by id
abbrev pub look_text : (from to : ℤ) → MirrorRows → List ℕ
look_text from to lists =
    rows_text lists.objects (between (first_moment from) (first_moment to) lists.sights)
