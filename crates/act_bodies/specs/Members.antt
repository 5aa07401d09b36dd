-- What a body is as JSON, and what its members say.
use Rattle.std.specs.Prelude.{ℕ, ℤ, Bool, true, false, not, ◌&&◌, ◌||◌, ◌==◌, nat_le, if◌then◌else◌, List, [], ◌∷◌}
use Rattle.std.specs.Prelude.{length, slice_index, codes, bytes_eq, Option, Some, None, option_and_then}
use Rattle.std.specs.List.{list_all, list_any}
use Rattle.std.specs.Option.{option_map_or}
use Rattle.std.specs.Result.{result_ok}
use Rattle.std.specs.Str.{is_utf8}
use Rattle.serde_json.specs.Data.{Data, Items, no_items, item}
use Rattle.serde_json.specs.Read.{read}
use Rattle.serde_json.specs.Find.{get, as_str, as_number, as_u64, as_array, as_object}
use Rattle.serde_json.specs.Events.{members_len}
use Rattle.ascii_text.specs.Bytes.{is_printable, is_visible}
use Rattle.ascii_text.specs.Reading.{◌>>=◌}
use Rattle.obs_time.specs.DateText.{date_of}
use Rattle.packed_names.specs.declared.name.Designation.{Designation}
use Rattle.packed_names.specs.declared.name.Name.{Name}
use Rattle.packed_names.specs.declared.name.Name.TheVariants as names
use Rattle.packed_names.specs.declared.half_month.HalfMonth.{HalfMonth}
use Rattle.packed_names.specs.PrintedReading.{printed_in, half_in}
use Rattle.packed_names.specs.Ranges.{limit_of}
use Rattle.packed_names.specs.Judging.{is_in_range, is_half_month, is_within, answered}
use Rattle.obs_record.specs.declared.short.Short.{Short}
use Rattle.obs_record.specs.Modes.{refused_modes}
use Rattle.obs_record.specs.Short.{kept_short}
use Rattle.station_tables.specs.declared.kind.Kind.{Kind}
use Rattle.station_tables.specs.declared.kind.Kind.TheVariants.{Catalogue, Band, Mode}
use Rattle.act_bodies.specs.declared.enrol.Rank.{Rank}
use Rattle.act_bodies.specs.declared.enrol.Rank.TheVariants.{Observer, Officer}
use Rattle.act_bodies.specs.declared.key.Key.{Key}
use Rattle.act_bodies.specs.Keys.{key_of}

-- the JSON value that bytes are read into; bytes that aren't UTF-8 are none, nor is one that nests deeper than 127
unfoldable pub value_of : List ℕ → Option Data
value_of bytes = if is_utf8 bytes then read bytes else None

-- the value is an object of this many members
abbrev pub has_members : ℕ → Data → Bool
has_members count value = option_map_or (λ members. members_len members == count) (as_object value) false

-- the object of this many members that bytes are read into
unfoldable pub object_of : ℕ → List ℕ → Option Data
object_of count bytes = value_of bytes >>= λ value. if has_members count value then Some value else None

-- the text of a member that is a string
abbrev pub text_in : List ℕ → Data → Option (List ℕ)
text_in name value = option_and_then as_str (get name value)

-- the whole number that a value is: a JSON number from 0 to 2 ^ 64 - 1 without a sign, a point or an exponent
abbrev pub whole_of : Data → Option ℕ
whole_of value = option_and_then as_u64 (as_number value)

-- the whole number of a member that is one
abbrev pub whole_in : List ℕ → Data → Option ℕ
whole_in name value = option_and_then whole_of (get name value)

-- the whole number of a member that is one, from the least to the greatest that it may be
unfoldable pub bounded_in : ℕ → ℕ → List ℕ → Data → Option ℕ
bounded_in least greatest name value = do
  whole ← whole_in name value
  if nat_le least whole && nat_le whole greatest then Some whole else None

-- the whole numbers of a list in which each value is one
unfoldable pub wholes_of : Items → Option (List ℕ)
wholes_of no_items = Some []
wholes_of (item value others) = do
  whole ← whole_of value
  wholes ← wholes_of others
  Some (whole ∷ wholes)

-- the whole numbers of a member that is a list of such
unfoldable pub wholes_in : List ℕ → Data → Option (List ℕ)
wholes_in name value = do
  items ← option_and_then as_array (get name value)
  wholes_of items

-- no number stands twice
abbrev pub are_different : List ℕ → Bool
are_different [] = true
are_different (first ∷ others) = not (list_any (λ other. other == first) others) && are_different others

-- 1 to 100 different numbers
abbrev pub is_selection : List ℕ → Bool
is_selection numbers = (nat_le 1 (length numbers) && nat_le (length numbers) 100) && are_different numbers

-- the tracklets that a body lists
unfoldable pub tracklets_in : Data → Option (List ℕ)
tracklets_in value = do
  numbers ← wholes_in (codes "tracklets") value
  if is_selection numbers then Some numbers else None

-- the designation that a name is, if it is no number
abbrev pub designation_from : Name → Option Designation
designation_from (names.Designation designation) = Some designation
designation_from (names.Number number) = None

-- the designation whose printed form a text is
unfoldable pub designation_of : List ℕ → Option Designation
designation_of text = do
  name ← result_ok (answered is_in_range (printed_in text))
  designation_from name

-- the designation of a member that is a string, the printed form of one
unfoldable pub designation_in : List ℕ → Data → Option Designation
designation_in name value = do
  text ← text_in name value
  designation_of text

-- the half-month whose printed form a text is
unfoldable pub half_month_of : List ℕ → Option HalfMonth
half_month_of text = result_ok (answered is_half_month (half_in text))

-- the half-month that a body names
unfoldable pub half_month_in : Data → Option HalfMonth
half_month_in value = do
  text ← text_in (codes "half") value
  half_month_of text

-- how many designations of a half-month a body says were given: 1 to the half-month's limit
abbrev pub given_in : HalfMonth → Data → Option ℕ
given_in half value = bounded_in 1 (limit_of half) (codes "given") value

-- at most 100 different orders, each from 1 to the last one given
abbrev pub are_carried : ℕ → List ℕ → Bool
are_carried given orders = (nat_le (length orders) 100 && list_all (is_within 1 given) orders) && are_different orders

-- the orders that a body carries
unfoldable pub carried_in : ℕ → Data → Option (List ℕ)
carried_in given value = do
  orders ← wholes_in (codes "carried") value
  if are_carried given orders then Some orders else None

-- a letter A to Z or a to z, or a digit
abbrev pub is_alphanumeric : ℕ → Bool
is_alphanumeric byte = (nat_le 48 byte && nat_le byte 57)
    || ((nat_le 65 byte && nat_le byte 90) || (nat_le 97 byte && nat_le byte 122))

-- the text of a key on the roster: 8 to 32 letters, digits and dashes
abbrev pub is_key : List ℕ → Bool
is_key text = (nat_le 8 (length text) && nat_le (length text) 32)
    && list_all (λ byte. is_alphanumeric byte || (byte == 45)) text

-- the key that a body names
unfoldable pub key_in : Data → Option Key
key_in value = do
  text ← text_in (codes "key") value
  if is_key text then Some (key_of text) else None

-- a name: 1 to 100 printable characters
abbrev pub is_name : List ℕ → Bool
is_name text = (nat_le 1 (length text) && nat_le (length text) 100) && list_all is_printable text

-- the name that a body gives
unfoldable pub name_in : Data → Option (List ℕ)
name_in value = do
  text ← text_in (codes "name") value
  if is_name text then Some text else None

-- the rank that a word names
unfoldable pub rank_of : List ℕ → Option Rank
rank_of word =
    if bytes_eq word (codes "observer") then Some Observer
    else (if bytes_eq word (codes "officer") then Some Officer else None)

-- the rank in which a body enrols
unfoldable pub role_in : Data → Option Rank
role_in value = do
  word ← text_in (codes "role") value
  rank_of word

-- a station's code: 3 letters and digits
abbrev pub is_station_code : List ℕ → Bool
is_station_code text = (length text == 3) && list_all is_alphanumeric text

-- the station's code that a body names
unfoldable pub station_code_in : Data → Option (List ℕ)
station_code_in value = do
  text ← text_in (codes "code") value
  if is_station_code text then Some text else None

-- the day of a member that is a date `YYYY-MM-DD`, as days from 1970-01-01
unfoldable pub day_in : List ℕ → Data → Option ℤ
day_in name value = do
  text ← text_in name value
  result_ok (date_of text)

-- the kind that a word names
unfoldable pub kind_of : List ℕ → Option Kind
kind_of word =
    if bytes_eq word (codes "catalogue") then Some Catalogue
    else (if bytes_eq word (codes "band") then Some Band
    else (if bytes_eq word (codes "mode") then Some Mode else None))

-- the kind of thing that a body's letter and word stand for
unfoldable pub kind_in : Data → Option Kind
kind_in value = do
  word ← text_in (codes "kind") value
  kind_of word

-- A kind may have this letter. No mode has one of those that stand for records of roving observers, radar and
-- satellites.
abbrev pub may_have : Kind → ℕ → Bool
may_have Mode letter = is_visible letter && not (list_any (λ mode. mode == letter) refused_modes)
may_have _ letter = is_visible letter

-- the letter that a body gives to a thing of a kind
unfoldable pub letter_in : Kind → Data → Option ℕ
letter_in kind value = do
  text ← text_in (codes "letter") value
  if (length text == 1) && may_have kind (slice_index text 0) then Some (slice_index text 0) else None

-- a word: 1 to 11 printable characters, none of them a blank or a bar
abbrev pub is_word : List ℕ → Bool
is_word text = (nat_le 1 (length text) && nat_le (length text) 11)
    && list_all (λ byte. is_visible byte && not (byte == 124)) text

-- the word that a body gives
unfoldable pub word_in : Data → Option Short
word_in value = do
  text ← text_in (codes "word") value
  if is_word text then Some (kept_short text) else None
