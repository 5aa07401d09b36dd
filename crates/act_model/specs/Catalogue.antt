-- The catalogue: each live observation as a line, under its object or its isolated tracklet.
use Rattle.std.specs.Prelude.{ℕ, ◌==◌, Bool, not, List, [], ◌++◌, length, flat_map, codes, decimal, false, Option, Some}
use Rattle.std.specs.Prelude.{None}
use Rattle.std.specs.List.{filter}
use Rattle.std.specs.Option.{option_map_or}
use Rattle.std.specs.Ordering.{eq_by_cmp}
use Rattle.packed_names.specs.declared.name.Designation.{Designation}
use Rattle.packed_names.specs.Order.{designation_cmp}
use Rattle.obs_record.specs.declared.name.TrackName.{TrackName}
use Rattle.col80_format.specs.declared.writing.Front.{Front}
use Rattle.designate_core.specs.Takes.{discovery_of}
use Rattle.identify_core.specs.Acts.{members}
use Rattle.numbering_core.specs.Numbers.{number_of}
use Rattle.tracklet_file.specs.Observations.{sighting_of, observations_of}
use Rattle.tracklet_file.specs.Tracklets.{name_of_track}
use Rattle.act_model.specs.declared.deed.Deed.{Deed}
use Rattle.act_model.specs.declared.entry.Entry.{Entry}
use Rattle.act_model.specs.Deeds.{deeds}
use Rattle.act_model.specs.Designations.{row_acts_of, links_of, principals}
use Rattle.act_model.specs.Holdings.{holdings}
use Rattle.act_model.specs.Numbers.{numbers_of}
use Rattle.act_model.specs.OfficeTables.{tables_of}
use Rattle.act_model.specs.QueryTexts.{number_text, track_name_text}
use Rattle.act_model.specs.Shelves.{isolated_tracklets, live_by_time, live_of}
use Rattle.act_model.specs.Tallies.{tally, tally_text}
use Rattle.act_model.specs.Texts.{line_of, designation_text, packed_designation}
use Rattle.act_model.specs.CatalogueLines.{in_seven, track_front, written_line}

-- ---- an object

-- its live observations, by exact time, ties by number
abbrev pub in_object : List Deed → Designation → List ℕ
in_object past p = live_of (holdings past) (links_of past) p

-- `object P number N observations M`
abbrev pub object_head : List Deed → Designation → List ℕ
object_head past p =
    line_of
    (codes "object " ++ designation_text p ++ codes " number " ++ number_text (number_of (numbers_of past) p)
    ++ codes " observations " ++ decimal (length (in_object past p)))

-- the other designations of the object, in their order, and `also D` for each
abbrev pub others : List Deed → Designation → List Designation
others past p = filter (λ d. not (eq_by_cmp designation_cmp d p)) (members (links_of past) p)

abbrev pub also_line : Designation → List ℕ
also_line d = line_of (codes "also " ++ designation_text d)

-- the observation by which the object with this designation was discovered; a designation that was carried has none
abbrev pub is_discovery : List Deed → Designation → ℕ → Bool
is_discovery past p k = option_map_or (λ discovery. discovery == k) (discovery_of p (row_acts_of past)) false

-- columns 1 to 13: the object's number, its principal designation as it is packed, and an asterisk for its discovery
abbrev pub object_front : List Deed → Designation → ℕ → Front
object_front past p k =
    record {
      number = number_of (numbers_of past) p;
      name = in_seven (packed_designation p);
      star = is_discovery past p k;
    }

abbrev pub object_line : List Deed → Designation → ℕ → List ℕ
object_line past p k =
    written_line (tables_of past).codes (object_front past p k) (sighting_of (holdings past).observations k)

abbrev pub object_lines : List Deed → Designation → List ℕ
object_lines past p =
    object_head past p ++ (flat_map also_line (others past p) ++ flat_map (object_line past p) (in_object past p))

-- ---- an isolated tracklet

-- the live observations of a tracklet, by exact time, ties by number
abbrev pub in_track : List Deed → ℕ → List ℕ
in_track past t = live_by_time (holdings past).observations (observations_of (holdings past).observations t)

-- `track T M`
abbrev pub track_head_line : ℕ → TrackName → List ℕ
track_head_line t name = line_of (codes "track " ++ decimal t ++ codes " " ++ track_name_text name)

abbrev pub track_line : List Deed → TrackName → ℕ → List ℕ
track_line past name k =
    written_line (tables_of past).codes (track_front name) (sighting_of (holdings past).observations k)

abbrev pub named_track_lines : List Deed → ℕ → Option TrackName → List ℕ
named_track_lines past t None = []
named_track_lines past t (Some name) = track_head_line t name ++ flat_map (track_line past name) (in_track past t)

abbrev pub track_lines : List Deed → ℕ → List ℕ
track_lines past t = named_track_lines past t (name_of_track (holdings past).tracklets t)

-- the isolated tracklets that have a live observation, by number
abbrev pub has_live : List Deed → ℕ → Bool
has_live past t = not (length (in_track past t) == 0)

abbrev pub listed_tracks : List Deed → List ℕ
listed_tracks past = filter (has_live past) (isolated_tracklets (holdings past).tracklets)

-- ---- all of it

-- the tally, the objects in the order of their principal designations, and the isolated tracklets
unfoldable pub catalogue : List Entry → List ℕ
catalogue history =
    line_of (codes "catalogue 1")
    ++ (tally_text (tally history)
    ++ (flat_map (object_lines (deeds history)) (principals (links_of (deeds history)))
    ++ (flat_map (track_lines (deeds history)) (listed_tracks (deeds history)) ++ line_of (codes "end"))))
