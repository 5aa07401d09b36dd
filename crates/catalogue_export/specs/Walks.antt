-- A walk over the office that writes the catalogue: what is left from where it stands.
use Rattle.std.specs.Prelude.{ℕ, ◌+◌, ◌*◌, ◌<◌, ◌≡◌, List, [], ◌∷◌, ◌++◌, length, map, drop, flat_map}
use Rattle.packed_names.specs.declared.name.Designation.{Designation}
use Rattle.act_model.specs.declared.deed.Deed.{Deed}
use Rattle.act_model.specs.declared.entry.Entry.{Entry}
use Rattle.act_model.specs.Deeds.{deeds}
use Rattle.act_model.specs.Designations.{links_of, principals}
use Rattle.act_model.specs.Holdings.{holdings}
use Rattle.act_model.specs.Shelves.{numbers_to}
use Rattle.catalogue_export.specs.declared.walk.Stage.{Stage}
use Rattle.catalogue_export.specs.declared.walk.Stage.TheVariants as stages
use Rattle.catalogue_export.specs.declared.walk.Walk.{Walk}
use Rattle.catalogue_export.specs.Pieces.{Piece, Front, ObjectName, ObjectLine, TrackLine, End, piece_text}
use Rattle.catalogue_export.specs.Pieces.{object_pieces, track_pieces}

-- what comes after the tracklet with this number
abbrev pub tracks_after : List Deed → ℕ → List Piece
tracks_after past t = flat_map (track_pieces past) (drop t (numbers_to (length (holdings past).tracklets))) ++ End ∷ []

-- these objects, and all tracklets
abbrev pub objects_left : List Deed → List Designation → List Piece
objects_left past names = flat_map (object_pieces past) names ++ tracks_after past 0

-- what is left of the object with this principal: names, then observations
abbrev pub observations_left : List Deed → Designation → List ℕ → List Designation → List Piece
observations_left past p observations names = map (ObjectLine p) observations ++ objects_left past names

-- the pieces that are left at a stage of the walk, which has these lists
abbrev pub left_at : List Deed → Walk → Stage → List Piece
left_at past walk stages.Start = Front ∷ objects_left past (principals (links_of past))
left_at past walk (stages.Objects at) = objects_left past (drop at walk.principals)
left_at past walk (stages.Names p next at) =
    map (ObjectName p) (drop at walk.names) ++ observations_left past p walk.observations (drop next walk.principals)
left_at past walk (stages.Observations p next at) =
    observations_left past p (drop at walk.observations) (drop next walk.principals)
left_at past walk (stages.Tracks after) = tracks_after past after
left_at past walk (stages.Tracklet t at) = map (TrackLine t) (drop at walk.observations) ++ tracks_after past t
left_at past walk stages.Ended = []

abbrev pub pieces_left : List Deed → Walk → List Piece
pieces_left past walk = left_at past walk walk.stage

-- what is still to be written
abbrev pub to_write : List Entry → Walk → List ℕ
to_write history walk = flat_map (piece_text history) (pieces_left (deeds history) walk)

-- a stage from which the walk may go on without writing
abbrev pub turns_left : Stage → ℕ
turns_left (stages.Names p next at) = 3
turns_left (stages.Observations p next at) = 2
turns_left (stages.Objects at) = 1
turns_left (stages.Tracklet t at) = 1
turns_left stage = 0

-- how many steps the walk can still take at most
abbrev pub steps_left : List Deed → Walk → ℕ
steps_left past walk = 5 * length (pieces_left past walk) + turns_left walk.stage

-- From one walk to the next, the text grew by what is no longer to be written, and the end is nearer.
pub record Steps (history : List Entry) (old new : Walk) (before after : List ℕ) : Type 0 where
  pub text : after ++ to_write history new ≡ before ++ to_write history old
  pub nearer : steps_left (deeds history) new < steps_left (deeds history) old
