-- The texts that tell what queries ask.
use Rattle.std.specs.Prelude.{ℕ, Bool, true, false, if◌then◌else◌, List, [], ◌++◌, length, take, flat_map, codes}
use Rattle.std.specs.Prelude.{decimal, Option, Some, None}
use Rattle.std.specs.Option.{option_and_then}
use Rattle.ascii_text.specs.Blanks.{trimmed}
use Rattle.angle_fixed.specs.Degrees.{ra_degrees_text, dec_degrees_text}
use Rattle.obs_time.specs.IsoText.{iso_text}
use Rattle.packed_names.specs.declared.half_month.HalfMonth.{HalfMonth}
use Rattle.packed_names.specs.declared.name.Designation.{Designation}
use Rattle.packed_names.specs.declared.name.Designation.TheVariants as designations
use Rattle.packed_names.specs.declared.name.Name.{Name}
use Rattle.packed_names.specs.declared.number.Number.{Number}
use Rattle.packed_names.specs.declared.provisional.Provisional.{Provisional}
use Rattle.packed_names.specs.Judging.{is_in_range}
use Rattle.packed_names.specs.Packed.{packed_text}
use Rattle.packed_names.specs.Printed.{printed_text}
use Rattle.obs_record.specs.declared.name.TrackName.{TrackName}
use Rattle.obs_record.specs.declared.name.TrackName.TheVariants as tracks
use Rattle.obs_record.specs.declared.short.Short.{Short}
use Rattle.obs_record.specs.declared.sighting.Sighting.{Sighting}
use Rattle.designate_core.specs.Takes.{RowAct, given_in, next_of}
use Rattle.identify_core.specs.Acts.{LinkAct, principal, members}
use Rattle.numbering_core.specs.declared.numbering.Numbering.{Numbering}
use Rattle.numbering_core.specs.Numbers.{number_of}
use Rattle.tracklet_file.specs.declared.observation.Observation.{Observation}
use Rattle.tracklet_file.specs.Numbering.{numbered}
use Rattle.tracklet_file.specs.Observations.{observations_of, track_of}
use Rattle.act_model.specs.declared.shelf.TrackHead.{TrackHead}
use Rattle.act_model.specs.Discoveries.{seen_of}
use Rattle.act_model.specs.Holdings.{Holdings}
use Rattle.act_model.specs.Knowing.{stands_for}
use Rattle.act_model.specs.Shelves.{principal_by, isolated_tracklets, live_of}
use Rattle.act_model.specs.Texts.{line_of, designation_text, half_month_text}

-- ---- an object

-- `principal P`, and `name D`
abbrev pub principal_line : Designation → List ℕ
principal_line p = line_of (codes "principal " ++ designation_text p)

abbrev pub name_line : Designation → List ℕ
name_line d = line_of (codes "name " ++ designation_text d)

-- `number N`, or `number none`
abbrev pub number_text : Option Number → List ℕ
number_text None = codes "none"
number_text (Some number) = decimal number.0

abbrev pub own_number_line : Option Number → List ℕ
own_number_line number = line_of (codes "number " ++ number_text number)

-- `obs K track T`
abbrev pub in_track_line : ℕ → Option ℕ → List ℕ
in_track_line k None = []
in_track_line k (Some t) = line_of (codes "obs " ++ decimal k ++ codes " track " ++ decimal t)

abbrev pub observed_line : List Observation → ℕ → List ℕ
observed_line observations k = in_track_line k (track_of observations k)

-- the object with this principal: its number, its designations in their order, its live observations by time
abbrev pub object_text : Holdings → List LinkAct → List Numbering → Designation → List ℕ
object_text held acts given p =
    principal_line p
    ++ (own_number_line (number_of given p)
    ++ (flat_map name_line (members acts p) ++ flat_map (observed_line held.observations) (live_of held acts p)))

-- ---- a tracklet

-- the characters of a short text
abbrev pub short_text : Short → List ℕ
short_text short = take short.len short.bytes

-- the name that a tracklet's lines go by
abbrev pub track_name_text : TrackName → List ℕ
track_name_text (tracks.Number number) = decimal number.0
track_name_text (tracks.Designation d) = designation_text d
track_name_text (tracks.Sub short) = short_text short

-- `track T station C name M`
abbrev pub track_line : ℕ → TrackHead → List ℕ
track_line t head =
    line_of (codes "track " ++ decimal t ++ codes " station " ++ short_text head.station ++ codes " name "
    ++ track_name_text head.name)

-- `home isolated`, or `home D principal P`
abbrev pub home_line : List LinkAct → Option Designation → List ℕ
home_line acts None = line_of (codes "home isolated")
home_line acts (Some home) =
    line_of (codes "home " ++ designation_text home ++ codes " principal " ++ designation_text (principal_by acts home))

-- `live` or `retracted`
abbrev pub state_text : Bool → List ℕ
state_text true = codes " live "
state_text false = codes " retracted "

-- the moment with nine decimals of the second, and the two angles in degrees with twelve decimals
abbrev pub position_text : Sighting → List ℕ
position_text s =
    iso_text s.time ++ codes " " ++ trimmed (ra_degrees_text s.ra) ++ codes " " ++ dec_degrees_text s.dec

-- `obs K live I A B`, or `obs K retracted I A B`
abbrev pub state_line : ℕ → Option Observation → List ℕ
state_line k None = []
state_line k (Some o) = line_of (codes "obs " ++ decimal k ++ state_text o.live ++ position_text o.sighting)

abbrev pub observation_line : List Observation → ℕ → List ℕ
observation_line observations k = state_line k (numbered observations k)

-- the tracklet with this number and this head, and its observations by number
abbrev pub tracklet_text : Holdings → List LinkAct → ℕ → TrackHead → List ℕ
tracklet_text held acts t head =
    track_line t head
    ++ (home_line acts head.home ++ flat_map (observation_line held.observations) (observations_of held.observations t))

-- ---- isolated tracklets

-- `track T live N`
abbrev pub live_line : List Observation → ℕ → List ℕ
live_line observations t =
    line_of (codes "track " ++ decimal t ++ codes " live " ++ decimal (length (seen_of observations t)))

-- the isolated tracklets by number, each with how many live observations it has
abbrev pub isolated_text : Holdings → List ℕ
isolated_text held = flat_map (live_line held.observations) (isolated_tracklets held.tracklets)

-- ---- a half-month

-- the next designation, or `none` where the half-month has all that it can have
abbrev pub next_text : Option Provisional → List ℕ
next_text None = codes "none"
next_text (Some next) = designation_text (designations.Provisional next)

-- `halfmonth H given N next D`: how many designations were given in it, elsewhere and here, and the next one
abbrev pub half_month_line : List RowAct → HalfMonth → List ℕ
half_month_line rows half =
    line_of (codes "halfmonth " ++ half_month_text half ++ codes " given " ++ decimal (given_in half rows)
    ++ codes " next " ++ next_text (next_of half rows))

-- ---- a name

-- the printed and the packed form of a name; none of a value that is no name
abbrev pub printed_form : Name → List ℕ
printed_form name = if is_in_range name then printed_text name else []

abbrev pub packed_form : Name → List ℕ
packed_form name = if is_in_range name then packed_text name else []

-- the principal of the object that has the name, or `none` where the office didn't give the name
abbrev pub principal_text : Option Designation → List ℕ
principal_text None = codes "none"
principal_text (Some p) = designation_text p

-- `printed X`, `packed Q`, `principal P`
abbrev pub name_text : List LinkAct → List Numbering → Name → List ℕ
name_text acts given name =
    line_of (codes "printed " ++ printed_form name)
    ++ (line_of (codes "packed " ++ packed_form name)
    ++ line_of (codes "principal " ++ principal_text (option_and_then (principal acts) (stands_for acts given name))))
