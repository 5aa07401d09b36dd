-- The rows of an office.
use Rattle.std.specs.Prelude.{◌≡◌, ◌⊎◌, ℕ, ◌+◌, ◌-◌, nat_lt, pos, if◌then◌else◌, List, [], ◌∷◌, ◌++◌, length, replicate}
use Rattle.std.specs.Prelude.{filter_map, Option, Some, None, Result, Err}
use Rattle.std.specs.Option.{option_map, option_map_or, option_and_then}
use Rattle.packed_names.specs.declared.label.Label.{Label}
use Rattle.packed_names.specs.declared.name.Designation.{Designation}
use Rattle.packed_names.specs.declared.name.Name.TheVariants as names
use Rattle.packed_names.specs.Printed.{printed_text}
use Rattle.packed_names.specs.Ranges.{IsDesignation}
use Rattle.numbering_core.specs.Numbers.{number_of}
use Rattle.obs_record.specs.declared.sighting.Sighting.{Sighting}
use Rattle.tracklet_file.specs.Observations.{sighting_of}
use Rattle.act_model.specs.declared.deed.Deed.{Deed}
use Rattle.act_model.specs.declared.entry.Entry.{Entry}
use Rattle.act_model.specs.declared.shelf.Place.{Place}
use Rattle.act_model.specs.declared.shelf.Place.TheVariants.{Retracted, Isolated, Object}
use Rattle.act_model.specs.Catalogue.{in_object}
use Rattle.act_model.specs.Deeds.{deeds}
use Rattle.act_model.specs.Designations.{links_of, principals}
use Rattle.act_model.specs.Holdings.{holdings}
use Rattle.act_model.specs.Numbers.{numbers_of}
use Rattle.act_model.specs.Observations.{observations}
use Rattle.act_model.specs.Shelves.{place_of, numbers_to}
use Rattle.mirror_store.specs.declared.refreshing.Refreshed.{Refreshed}
use Rattle.mirror_store.specs.declared.refreshing.RefreshFault.{RefreshFault}
use Rattle.mirror_store.specs.declared.refreshing.RefreshFault.TheVariants.{TooMany, NoMemory}
use Rattle.mirror_store.specs.declared.rows.ObjectRow.{ObjectRow}
use Rattle.mirror_store.specs.declared.rows.SightRow.{SightRow}
use Rattle.mirror_store.specs.declared.rows.MirrorRows.{MirrorRows}

-- ---- names

-- the label of a text of at most 13 bytes: the text, and zeros after it
abbrev pub label_of : List ℕ → Label
label_of text = record { len = length text; bytes = text ++ replicate (13 - length text) 0 }

-- the printed form of a designation
abbrev pub printed_label : Designation → Label
printed_label d = label_of (printed_text (names.Designation d))

-- ---- objects

-- the object with this principal designation, at its place: its number or 0, and how many live observations it has
abbrev pub object_row : List Deed → ℕ → Designation → ObjectRow
object_row past place p =
    record {
      place = place;
      principal = printed_label p;
      number = option_map_or (λ n. n.0) (number_of (numbers_of past) p) 0;
      observations = length (in_object past p);
    }

-- the objects with these principal designations, at the places from this one on
abbrev pub object_rows_from : List Deed → ℕ → List Designation → List ObjectRow
object_rows_from past place [] = []
object_rows_from past place (p ∷ more) = object_row past place p ∷ object_rows_from past (place + 1) more

-- the principal designations in their order, at the places 1, 2, 3 and so on
abbrev pub object_rows : List Deed → List ObjectRow
object_rows past = object_rows_from past 1 (principals (links_of past))

-- ---- observations

-- observation k, under this name
abbrev pub sight_row : ℕ → Label → Sighting → SightRow
sight_row k object s =
    record { id = k; object = object; time = s.time; ra = pos s.ra; dec = s.dec; station = s.station }

-- the name that an observation has at its place: none where it is retracted, an empty one where it is isolated, and the
-- principal designation of its object
abbrev pub name_at : Place → Option Label
name_at Retracted = None
name_at Isolated = Some (label_of [])
name_at (Object p) = Some (printed_label p)

-- where it is an object's, the object's designation is in range
abbrev pub IsNamed : Place → Type 0
IsNamed (Object p) = IsDesignation p
IsNamed _ = Unit {0}

-- observation k, where it stands
abbrev pub sight_of : List Deed → ℕ → Option SightRow
sight_of past k =
    option_and_then
    (λ object. option_map (sight_row k object) (sighting_of (holdings past).observations k))
    (option_and_then name_at (place_of (holdings past) (links_of past) k))

-- those that stand, by number
abbrev pub sight_rows : List Deed → List SightRow
sight_rows past = filter_map (sight_of past) (numbers_to (observations past))

-- ---- both lists

-- the rows of an office with this history
unfoldable pub mirrored : List Entry → MirrorRows
mirrored history = record { objects = object_rows (deeds history); sights = sight_rows (deeds history) }

-- ---- what rows can count

-- the greatest number that a row has
abbrev pub greatest : ℕ
greatest = 4294967295

-- How many there are where they are more than rows can count: the accepted observations, or else the objects.
abbrev pub too_many : ℕ → ℕ → Option ℕ
too_many accepted principals =
    if nat_lt greatest accepted then Some accepted else if nat_lt greatest principals then Some principals else None

-- those of an office with this history
abbrev pub uncountable : List Entry → Option ℕ
uncountable history = too_many (observations (deeds history)) (length (principals (links_of (deeds history))))

-- where there are too many, that is the answer, or out of memory; else it isn't
abbrev pub RefusesBy : {A : Type 0} → Option ℕ → Result A RefreshFault → Type 0
RefusesBy None result = (count : ℕ) → result ≡ Err (TooMany count) → ⊥
RefusesBy (Some count) result = (result ≡ Err (TooMany count)) ⊎ (result ≡ Err NoMemory)

-- ---- what is said about a refresh

-- the entries of the history, and the rows of both lists
abbrev pub refresh_result : List Entry → Refreshed
refresh_result history =
    record {
      entries = length history;
      objects = length (mirrored history).objects;
      sights = length (mirrored history).sights;
    }
