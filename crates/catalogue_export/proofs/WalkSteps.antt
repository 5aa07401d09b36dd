-- One step of a walk from each of its stages.
use Rattle.std.proofs.Common.{◌≡◌, ℕ, suc, ◌+◌, ◌<◌, ◌≤◌, List, ◌∷◌, ◌++◌, length, map, drop, slice_get, Some, refl, sym, ap, ◌∙◌, append_assoc, arith, add-one, codes, flat_map}
use Rattle.packed_names.specs.declared.name.Designation.{Designation}
use Rattle.identify_core.specs.Acts.{members}
use Rattle.act_model.specs.declared.entry.Entry.{Entry}
use Rattle.act_model.specs.Catalogue.{in_object, object_head}
use Rattle.act_model.specs.Deeds.{deeds}
use Rattle.act_model.specs.Designations.{links_of, principals}
use Rattle.act_model.specs.Holdings.{holdings}
use Rattle.act_model.specs.Texts.{line_of}
use Rattle.catalogue_export.specs.Pieces.{Piece, Front, ObjectHead, ObjectName, ObjectLine, TrackHead, TrackLine, End, piece_text, listed_in, object_pieces}
use Rattle.catalogue_export.specs.Walks.{tracks_after, objects_left, observations_left, left_at, pieces_left, Steps}
use Rattle.catalogue_export.specs.declared.walk.Stage.{Stage}
use Rattle.catalogue_export.specs.declared.walk.Stage.TheVariants as stages
use Rattle.catalogue_export.specs.declared.walk.Walk.{Walk}
use Rattle.catalogue_export.proofs.WalkLemmas.{stepped, tracks_more, tracks_end, left_from}

module _ (history : List Entry) (old : Walk) (before : List ℕ) where
  at_stage : (stage : Stage) → old.stage ≡ stage → pieces_left (deeds history) old ≡ left_at (deeds history) old stage
  at_stage stage is = ap (left_at (deeds history) old) is

  -- the lines at the front were written
  pub begun : (names : List Designation) (after : List ℕ) → old.stage ≡ stages.Start → names ≡ principals (links_of (deeds history)) → after ≡ before ++ piece_text history Front
      → Steps history old (record old { principals = names; stage = stages.Objects 0 }) before after
  begun names after is names_are grew =
      let past = deeds history in
      stepped history old (record old { principals = names; stage = stages.Objects 0 }) Front before (piece_text history Front) after
      (at_stage stages.Start is ∙ ap (λ (ns : List Designation). Front ∷ objects_left past ns) (sym names_are))
      (omega arith) refl grew

  -- the head of an object was written
  pub entered_object : (at : ℕ) (p : Designation) (next : ℕ) (names : List Designation) (observations after : List ℕ) → old.stage ≡ stages.Objects at
      → drop at old.principals ≡ p ∷ drop next old.principals → names ≡ members (links_of (deeds history)) p → observations ≡ in_object (deeds history) p
      → after ≡ before ++ object_head (deeds history) p
      → Steps history old (record old { names = names; observations = observations; stage = stages.Names p next 0 }) before after
  entered_object at p next names observations after is first names_are observations_are grew =
      let past = deeds history in
      let named : List Piece = map (ObjectName p) (members (links_of past) p) in
      let observed : List Piece = map (ObjectLine p) (in_object past p) in
      let others : List Piece = flat_map (object_pieces past) (drop next old.principals) in
      let rest : List Piece = objects_left past (drop next old.principals) in
      stepped history old (record old { names = names; observations = observations; stage = stages.Names p next 0 }) (ObjectHead p) before (object_head past p) after
      (at_stage (stages.Objects at) is
      ∙ ap (objects_left past) first
      ∙ ap (λ (l : List Piece). ObjectHead p ∷ l) (append_assoc (named ++ observed) others (tracks_after past 0) ∙ append_assoc named observed rest)
      ∙ ap (λ (ns : List Designation). ObjectHead p ∷ (map (ObjectName p) ns ++ (observed ++ rest))) (sym names_are)
      ∙ ap (λ (ks : List ℕ). ObjectHead p ∷ (map (ObjectName p) names ++ (map (ObjectLine p) ks ++ rest))) (sym observations_are))
      (omega arith) refl grew

  -- a designation of an object was written
  pub named : (p : Designation) (next at : ℕ) (d : Designation) (text after : List ℕ) → old.stage ≡ stages.Names p next at → slice_get old.names at ≡ Some d
      → text ≡ piece_text history (ObjectName p d) → after ≡ before ++ text → Steps history old (record old { stage = stages.Names p next (at + 1) }) before after
  named p next at d text after is item text_is grew =
      let past = deeds history in
      let rest = observations_left past p old.observations (drop next old.principals) in
      stepped history old (record old { stage = stages.Names p next (at + 1) }) (ObjectName p d) before text after
      (at_stage (stages.Names p next at) is
      ∙ ap (λ (ns : List Designation). map (ObjectName p) ns ++ rest) (left_from old.names at d item)
      ∙ ap (λ (m : ℕ). ObjectName p d ∷ (map (ObjectName p) (drop m old.names) ++ rest)) (sym (add-one at)))
      (omega arith) text_is grew

  -- an observation of an object was written
  pub observed : (p : Designation) (next at k : ℕ) (text after : List ℕ) → old.stage ≡ stages.Observations p next at → slice_get old.observations at ≡ Some k
      → text ≡ piece_text history (ObjectLine p k) → after ≡ before ++ text → Steps history old (record old { stage = stages.Observations p next (at + 1) }) before after
  observed p next at k text after is item text_is grew =
      let rest = objects_left (deeds history) (drop next old.principals) in
      stepped history old (record old { stage = stages.Observations p next (at + 1) }) (ObjectLine p k) before text after
      (at_stage (stages.Observations p next at) is
      ∙ ap (λ (ks : List ℕ). map (ObjectLine p) ks ++ rest) (left_from old.observations at k item)
      ∙ ap (λ (m : ℕ). ObjectLine p k ∷ (map (ObjectLine p) (drop m old.observations) ++ rest)) (sym (add-one at)))
      (omega arith) text_is grew

  -- the head of a tracklet was written, if it is listed
  pub entered_track : (after_track t : ℕ) (observations : List ℕ) (text after : List ℕ) → old.stage ≡ stages.Tracks after_track → t ≡ after_track + 1
      → t ≤ length (holdings (deeds history)).tracklets → observations ≡ listed_in (deeds history) t → text ≡ piece_text history (TrackHead t) → after ≡ before ++ text
      → Steps history old (record old { observations = observations; stage = stages.Tracklet t 0 }) before after
  entered_track after_track t observations text after is next within observations_are text_is grew =
      let past = deeds history in
      let same : suc after_track ≡ t = sym (next ∙ add-one after_track) in
      let there : after_track < length (holdings past).tracklets = omega arith in
      stepped history old (record old { observations = observations; stage = stages.Tracklet t 0 }) (TrackHead t) before text after
      (at_stage (stages.Tracks after_track) is
      ∙ tracks_more past after_track there
      ∙ ap (λ (n : ℕ). TrackHead n ∷ (map (TrackLine n) (listed_in past n) ++ tracks_after past n)) same
      ∙ ap (λ (ks : List ℕ). TrackHead t ∷ (map (TrackLine t) ks ++ tracks_after past t)) (sym observations_are))
      (omega arith) text_is grew

  -- no tracklet is left
  pub ended : (after_track : ℕ) (after : List ℕ) → old.stage ≡ stages.Tracks after_track → length (holdings (deeds history)).tracklets ≤ after_track
      → after ≡ before ++ line_of (codes "end") → Steps history old (record old { stage = stages.Ended }) before after
  ended after_track after is all grew =
      stepped history old (record old { stage = stages.Ended }) End before (line_of (codes "end")) after
      (at_stage (stages.Tracks after_track) is ∙ tracks_end (deeds history) after_track all)
      (omega arith) refl grew

  -- an observation of a tracklet was written
  pub tracked : (t at k : ℕ) (text after : List ℕ) → old.stage ≡ stages.Tracklet t at → slice_get old.observations at ≡ Some k
      → text ≡ piece_text history (TrackLine t k) → after ≡ before ++ text → Steps history old (record old { stage = stages.Tracklet t (at + 1) }) before after
  tracked t at k text after is item text_is grew =
      let rest = tracks_after (deeds history) t in
      stepped history old (record old { stage = stages.Tracklet t (at + 1) }) (TrackLine t k) before text after
      (at_stage (stages.Tracklet t at) is
      ∙ ap (λ (ks : List ℕ). map (TrackLine t) ks ++ rest) (left_from old.observations at k item)
      ∙ ap (λ (m : ℕ). TrackLine t k ∷ (map (TrackLine t) (drop m old.observations) ++ rest)) (sym (add-one at)))
      (omega arith) text_is grew
