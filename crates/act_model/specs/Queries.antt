-- The query that a request asks for. It is a function of the verb and the body alone.
use Rattle.std.specs.Prelude.{ℕ, ◌==◌, if◌then◌else◌, List, [], ◌∷◌, Option, Some, None, option_map}
use Rattle.std.specs.Option.{option_or}
use Rattle.std.specs.Result.{result_ok}
use Rattle.ascii_text.specs.Reading.{number_at}
use Rattle.packed_names.specs.declared.name.Name.{Name}
use Rattle.packed_names.specs.Ranges.{IsHalfMonth}
use Rattle.packed_names.specs.Judging.{is_in_range, answered}
use Rattle.packed_names.specs.PackedReading.{packed_in}
use Rattle.packed_names.specs.PrintedReading.{printed_in}
use Rattle.act_bodies.specs.Members.{designation_of, half_month_of}
use Rattle.act_model.specs.declared.query.Query.{Query}
use Rattle.act_model.specs.declared.query.Query.TheVariants as query
use Rattle.act_model.specs.declared.request.Verb.{Verb}
use Rattle.act_model.specs.declared.request.Verb.TheVariants as verbs

-- a number from 1 on, with nothing after its digits
abbrev pub from_one : Option (ℕ × List ℕ) → Option ℕ
from_one None = None
from_one (Some (number, [])) = if number == 0 then None else Some number
from_one (Some (number, byte ∷ rest)) = None

-- the number that a text of 1 to 18 digits without a leading zero spells
abbrev pub counted_by : List ℕ → Option ℕ
counted_by text = from_one (number_at 18 text)

-- the name that a text spells: a number or a designation as it is printed, or else as it is packed
abbrev pub name_by : List ℕ → Option Name
name_by text =
    option_or (result_ok (answered is_in_range (printed_in text))) (result_ok (answered is_in_range (packed_in text)))

-- a body that is empty
abbrev pub if_empty : Query → List ℕ → Option Query
if_empty asked [] = Some asked
if_empty asked (byte ∷ rest) = None

-- the query of a verb and a body; no other verb is that of a query
unfoldable pub query_of : Verb → List ℕ → Option Query
query_of verbs.Receipt body = option_map query.Receipt (counted_by body)
query_of verbs.Tally body = if_empty query.Tally body
query_of verbs.Object body = option_map query.Object (designation_of body)
query_of verbs.Tracklet body = option_map query.Tracklet (counted_by body)
query_of verbs.Isolated body = if_empty query.Isolated body
query_of verbs.HalfMonth body = option_map query.HalfMonth (half_month_of body)
query_of verbs.Name body = option_map query.Name (name_by body)
query_of verbs.Catalogue body = if_empty query.Catalogue body
query_of _ body = None

-- what reading a body makes sure of: a half-month is one of the years 1925 to 2099
abbrev pub IsReadQuery : Query → Type 0
IsReadQuery (query.HalfMonth half) = IsHalfMonth half
IsReadQuery _ = Unit {0}
