-- The bodies of officers' acts.
use Rattle.std.specs.Prelude.{ℕ, ◌≤◌, List, length, codes, if◌then◌else◌, Option, Some, None, int_le, nat_eq}
use Rattle.std.specs.List.{AllByRecursion, IsDistinct}
use Rattle.serde_json.specs.Data.{Data}
use Rattle.ascii_text.specs.Reading.{◌>>=◌}
use Rattle.packed_names.specs.declared.number.TheConstants.{GREATEST_NUMBER}
use Rattle.packed_names.specs.Ranges.{IsHalfMonth, limit_of}
use Rattle.act_bodies.specs.declared.attribute.Attribute.{Attribute}
use Rattle.act_bodies.specs.declared.code.Code.{Code}
use Rattle.act_bodies.specs.declared.designate.Designate.{Designate}
use Rattle.act_bodies.specs.declared.enrol.Enrol.{Enrol}
use Rattle.act_bodies.specs.declared.identify.Identify.{Identify}
use Rattle.act_bodies.specs.declared.number.Number.{Number}
use Rattle.act_bodies.specs.declared.opening.Opening.{Opening}
use Rattle.act_bodies.specs.declared.release.Release.{Release}
use Rattle.act_bodies.specs.declared.retract.Retract.{Retract}
use Rattle.act_bodies.specs.declared.separate.Separate.{Separate}
use Rattle.act_bodies.specs.declared.station.Station.{Station}
use Rattle.act_bodies.specs.declared.verdict.Verdict.{Verdict}
use Rattle.act_bodies.specs.Members.{object_of, key_in, name_in, role_in, station_code_in, day_in, kind_in, letter_in}
use Rattle.act_bodies.specs.Members.{word_in, whole_in, bounded_in, tracklets_in, designation_in}
use Rattle.act_bodies.specs.Members.{half_month_in, given_in, carried_in}

-- what the members `key`, `name` and `role` of an object say
unfoldable pub enrol_in : Data → Option Enrol
enrol_in value = do
  key ← key_in value
  name ← name_in value
  role ← role_in value
  Some (record { key = key; name = name; role = role })

-- the body of `enrol`: an object of these 3 members and no others
unfoldable pub enrol_of : List ℕ → Option Enrol
enrol_of bytes = object_of 3 bytes >>= enrol_in

-- what the members `code`, `name`, `from` and `to` of an object say; the last day isn't before the first
unfoldable pub station_in : Data → Option Station
station_in value = do
  code ← station_code_in value
  name ← name_in value
  from ← day_in (codes "from") value
  to ← day_in (codes "to") value
  if int_le from to then Some (record { code = code; name = name; from = from; to = to }) else None

-- the body of `station`: an object of these 4 members and no others
unfoldable pub station_of : List ℕ → Option Station
station_of bytes = object_of 4 bytes >>= station_in

-- what the members `kind`, `letter` and `word` of an object say
unfoldable pub code_in : Data → Option Code
code_in value = do
  kind ← kind_in value
  letter ← letter_in kind value
  word ← word_in value
  Some (record { kind = kind; letter = letter; word = word })

-- the body of `code`: an object of these 3 members and no others
unfoldable pub code_of : List ℕ → Option Code
code_of bytes = object_of 3 bytes >>= code_in

-- what the member `tracklets` of an object says
unfoldable pub designate_in : Data → Option Designate
designate_in value = do
  tracklets ← tracklets_in value
  Some (record { tracklets = tracklets })

-- the body of `designate`: an object of this member and no others
unfoldable pub designate_of : List ℕ → Option Designate
designate_of bytes = object_of 1 bytes >>= designate_in

-- what the members `tracklet` and `to` of an object say
unfoldable pub attribute_in : Data → Option Attribute
attribute_in value = do
  tracklet ← whole_in (codes "tracklet") value
  to ← designation_in (codes "to") value
  Some (record { tracklet = tracklet; to = to })

-- the body of `attribute`: an object of these 2 members and no others
unfoldable pub attribute_of : List ℕ → Option Attribute
attribute_of bytes = object_of 2 bytes >>= attribute_in

-- what the member `tracklet` of an object says
unfoldable pub release_in : Data → Option Release
release_in value = do
  tracklet ← whole_in (codes "tracklet") value
  Some (record { tracklet = tracklet })

-- the body of `release`: an object of this member and no others
unfoldable pub release_of : List ℕ → Option Release
release_of bytes = object_of 1 bytes >>= release_in

-- what the members `principal` and `secondary` of an object say
unfoldable pub identify_in : Data → Option Identify
identify_in value = do
  principal ← designation_in (codes "principal") value
  secondary ← designation_in (codes "secondary") value
  Some (record { principal = principal; secondary = secondary })

-- the body of `identify`: an object of these 2 members and no others
unfoldable pub identify_of : List ℕ → Option Identify
identify_of bytes = object_of 2 bytes >>= identify_in

-- what the member `secondary` of an object says
unfoldable pub separate_in : Data → Option Separate
separate_in value = do
  secondary ← designation_in (codes "secondary") value
  Some (record { secondary = secondary })

-- the body of `separate`: an object of this member and no others
unfoldable pub separate_of : List ℕ → Option Separate
separate_of bytes = object_of 1 bytes >>= separate_in

-- what the members `object`, `u` and `oppositions` of an object say
unfoldable pub verdict_in : Data → Option Verdict
verdict_in value = do
  object ← designation_in (codes "object") value
  u ← bounded_in 0 9 (codes "u") value
  oppositions ← bounded_in 1 255 (codes "oppositions") value
  Some (record { object = object; u = u; oppositions = oppositions })

-- the body of `verdict`: an object of these 3 members and no others
unfoldable pub verdict_of : List ℕ → Option Verdict
verdict_of bytes = object_of 3 bytes >>= verdict_in

-- what the members `first` and `most` of an object say
unfoldable pub number_in : Data → Option Number
number_in value = do
  first ← bounded_in 1 GREATEST_NUMBER (codes "first") value
  most ← bounded_in 1 1000 (codes "most") value
  Some (record { first = first; most = most })

-- the body of `number`: an object of these 2 members and no others
unfoldable pub number_of_body : List ℕ → Option Number
number_of_body bytes = object_of 2 bytes >>= number_in

-- what the member `observation` of an object says
unfoldable pub retract_in : Data → Option Retract
retract_in value = do
  observation ← whole_in (codes "observation") value
  Some (record { observation = observation })

-- the body of `retract`: an object of this member and no others
unfoldable pub retract_of : List ℕ → Option Retract
retract_of bytes = object_of 1 bytes >>= retract_in

-- what the members `half`, `given` and `carried` of an object say
unfoldable pub opening_in : Data → Option Opening
opening_in value = do
  half ← half_month_in value
  given ← given_in half value
  carried ← carried_in given value
  Some (record { half = half; given = given; carried = carried })

-- the body of `opening`: an object of these 3 members and no others
unfoldable pub opening_of : List ℕ → Option Opening
opening_of bytes = object_of 3 bytes >>= opening_in

-- an opening in its ranges
pub record IsOpening (opening : Opening) : Type 0 where
  pub half : IsHalfMonth opening.half
  pub given_from : 1 ≤ opening.given
  pub given_to : opening.given ≤ limit_of opening.half
  pub few : length opening.carried ≤ 100
  pub orders : AllByRecursion (λ order. (1 ≤ order) × (order ≤ opening.given)) opening.carried
  pub different : IsDistinct nat_eq opening.carried
