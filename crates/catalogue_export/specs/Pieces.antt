-- The pieces of which the catalogue is made, in their order.
use Rattle.std.specs.Prelude.{ℕ, Bool, ◌&&◌, if◌then◌else◌, List, [], ◌∷◌, ◌++◌, map, codes}
use Rattle.packed_names.specs.declared.name.Designation.{Designation}
use Rattle.std.specs.Option.{option_map_or}
use Rattle.std.specs.Ordering.{eq_by_cmp}
use Rattle.packed_names.specs.Order.{designation_cmp}
use Rattle.identify_core.specs.Acts.{members}
use Rattle.tracklet_file.specs.Tracklets.{name_of_track}
use Rattle.act_model.specs.declared.deed.Deed.{Deed}
use Rattle.act_model.specs.declared.entry.Entry.{Entry}
use Rattle.act_model.specs.Deeds.{deeds}
use Rattle.act_model.specs.Designations.{links_of}
use Rattle.act_model.specs.Holdings.{holdings}
use Rattle.act_model.specs.Shelves.{has_no_home}
use Rattle.act_model.specs.Tallies.{tally, tally_text}
use Rattle.act_model.specs.Texts.{line_of}
use Rattle.act_model.specs.Catalogue.{in_object, object_head, also_line, object_line, in_track, has_live}
use Rattle.act_model.specs.Catalogue.{track_head_line, track_line}

-- what is written at one go: the lines at the front; the head of an object, the line of one of its designations, the
-- line of one of its observations; the head of a tracklet, the line of one of its observations; the last line
pub data Piece : Type 0 where
  Front : Piece
  ObjectHead : Designation → Piece
  ObjectName : (principal name : Designation) → Piece
  ObjectLine : Designation → ℕ → Piece
  TrackHead : ℕ → Piece
  TrackLine : ℕ → ℕ → Piece
  End : Piece

-- the line of a designation that isn't the principal one
abbrev pub name_text : Designation → Designation → List ℕ
name_text p d = if eq_by_cmp designation_cmp d p then [] else also_line d

-- a tracklet is listed where it is isolated and has a live observation
abbrev pub is_listed : List Deed → ℕ → Bool
is_listed past t = has_no_home (holdings past).tracklets t && has_live past t

abbrev pub track_head : List Deed → ℕ → List ℕ
track_head past t =
    if is_listed past t then option_map_or (track_head_line t) (name_of_track (holdings past).tracklets t) [] else []

abbrev pub track_line_of : List Deed → ℕ → ℕ → List ℕ
track_line_of past t k = option_map_or (λ name. track_line past name k) (name_of_track (holdings past).tracklets t) []

abbrev pub piece_text : List Entry → Piece → List ℕ
piece_text history Front = line_of (codes "catalogue 1") ++ tally_text (tally history)
piece_text history (ObjectHead p) = object_head (deeds history) p
piece_text history (ObjectName p d) = name_text p d
piece_text history (ObjectLine p k) = object_line (deeds history) p k
piece_text history (TrackHead t) = track_head (deeds history) t
piece_text history (TrackLine t k) = track_line_of (deeds history) t k
piece_text history End = line_of (codes "end")

-- the observations that are listed under a tracklet
abbrev pub listed_in : List Deed → ℕ → List ℕ
listed_in past t = if is_listed past t then in_track past t else []

-- the pieces of an object, and of a tracklet
abbrev pub object_pieces : List Deed → Designation → List Piece
object_pieces past p =
    ObjectHead p ∷ (map (ObjectName p) (members (links_of past) p) ++ map (ObjectLine p) (in_object past p))

abbrev pub track_pieces : List Deed → ℕ → List Piece
track_pieces past t = TrackHead t ∷ map (TrackLine t) (listed_in past t)
