-- What a walk has left, step by step, and that all of it is the catalogue.
use Rattle.std.proofs.Common.{◌≡◌, ℕ, zero, suc, ◌+◌, ◌<◌, ◌≤◌, Bool, true, false, cond, not, ◌&&◌, List, [], ◌∷◌, ◌++◌, length, map, drop, filter, flat_map, Option, Some, None, refl, sym, ap, ◌∙◌, append_assoc, inl, inr, ◌⊎◌, arith, slice_get}
use Rattle.std.specs.Prelude.{codes}
use Rattle.std.specs.Option.{option_map_or}
use Rattle.std.specs.Ordering.{eq_by_cmp}
use Rattle.std.proofs.lemmas.Grind.{flat_map-append}
use Rattle.std.proofs.lemmas.Bool.{cases_lt}
use Rattle.std.proofs.lemmas.List.{drop_all, drop_at, drop-append-le, length-append}
use Rattle.packed_names.specs.declared.name.Designation.{Designation}
use Rattle.packed_names.specs.Order.{designation_cmp}
use Rattle.obs_record.specs.declared.name.TrackName.{TrackName}
use Rattle.identify_core.specs.Acts.{members}
use Rattle.tracklet_file.specs.Tracklets.{name_of_track}
use Rattle.act_model.specs.declared.deed.Deed.{Deed}
use Rattle.act_model.specs.declared.entry.Entry.{Entry}
use Rattle.act_model.specs.Catalogue.{in_object, object_head, others, also_line, object_lines, in_track, track_head_line, track_line, named_track_lines, track_lines, has_live, listed_tracks, catalogue}
use Rattle.act_model.specs.Deeds.{deeds}
use Rattle.act_model.specs.Designations.{links_of, principals}
use Rattle.act_model.specs.Holdings.{holdings}
use Rattle.act_model.specs.Shelves.{has_no_home, numbers_to}
use Rattle.act_model.specs.Tallies.{tally, tally_text}
use Rattle.act_model.specs.Texts.{line_of}
use Rattle.catalogue_export.specs.Pieces.{Piece, Front, ObjectName, ObjectLine, TrackHead, TrackLine, End, name_text, is_listed, track_head, piece_text, listed_in, object_pieces, track_pieces}
use Rattle.catalogue_export.specs.Walks.{tracks_after, objects_left, pieces_left, to_write, turns_left, Steps}
use Rattle.catalogue_export.specs.declared.walk.Walk.{Walk}

-- ---- lists of lists

flat_map-flat_map : {X Y A : Type 0} (f : Y → List A) (g : X → List Y) (xs : List X) → flat_map f (flat_map g xs) ≡ flat_map (λ x. flat_map f (g x)) xs
flat_map-flat_map f g [] = refl
flat_map-flat_map f g (x ∷ xs) = flat_map-append f (g x) (flat_map g xs) ∙ ap (λ (l : List _). flat_map f (g x) ++ l) (flat_map-flat_map f g xs)

flat_map-map : {X Y A : Type 0} (f : Y → List A) (g : X → Y) (xs : List X) → flat_map f (map g xs) ≡ flat_map (λ x. f (g x)) xs
flat_map-map f g [] = refl
flat_map-map f g (x ∷ xs) = ap (λ (l : List _). f (g x) ++ l) (flat_map-map f g xs)

flat_map-same : {X A : Type 0} (f g : X → List A) → ((x : X) → f x ≡ g x) → (xs : List X) → flat_map f xs ≡ flat_map g xs
flat_map-same f g same [] = refl
flat_map-same f g same (x ∷ xs) = ap (λ (l : List _). l ++ flat_map f xs) (same x) ∙ ap (λ (l : List _). g x ++ l) (flat_map-same f g same xs)

where_so : {X A : Type 0} (f : X → List A) (is_so : Bool) (x : X) (rest : List X) → flat_map f (cond is_so (x ∷ rest) rest) ≡ cond is_so (f x) [] ++ flat_map f rest
where_so f true x rest = refl
where_so f false x rest = refl

flat_map-filter : {X A : Type 0} (f : X → List A) (is_so : X → Bool) (xs : List X) → flat_map f (filter is_so xs) ≡ flat_map (λ x. cond (is_so x) (f x) []) xs
flat_map-filter f is_so [] = refl
flat_map-filter f is_so (x ∷ xs) = where_so f (is_so x) x (filter is_so xs) ∙ ap (λ (l : List _). cond (is_so x) (f x) [] ++ l) (flat_map-filter f is_so xs)

both : {X : Type 0} (one : X → Bool) (is_so : Bool) (x : X) (rest : List X) → filter one (cond is_so (x ∷ rest) rest) ≡ cond (is_so && one x) (x ∷ filter one rest) (filter one rest)
both one true x rest = refl
both one false x rest = refl

filter-filter : {X : Type 0} (one other : X → Bool) (xs : List X) → filter one (filter other xs) ≡ filter (λ x. other x && one x) xs
filter-filter one other [] = refl
filter-filter one other (x ∷ xs) = both one (other x) x (filter other xs) ∙ ap (λ (l : List _). cond (other x && one x) (x ∷ l) l) (filter-filter one other xs)

none_of : {X A : Type 0} (f : X → List A) → ((x : X) → f x ≡ []) → (xs : List X) → flat_map f xs ≡ []
none_of f none [] = refl
none_of f none (x ∷ xs) = ap (λ (l : List _). l ++ flat_map f xs) (none x) ∙ none_of f none xs

-- ---- the catalogue, piece by piece

unless_so : {A : Type 0} (is_so : Bool) (text : List A) → cond (not is_so) text [] ≡ cond is_so [] text
unless_so true text = refl
unless_so false text = refl

names_written : (past : List Deed) (p : Designation) → flat_map (name_text p) (members (links_of past) p) ≡ flat_map also_line (others past p)
names_written past p =
    let apart = λ (d : Designation). not (eq_by_cmp designation_cmp d p) in
    sym (flat_map-filter also_line apart (members (links_of past) p)
    ∙ flat_map-same (λ d. cond (apart d) (also_line d) []) (name_text p) (λ d. unless_so (eq_by_cmp designation_cmp d p) (also_line d)) (members (links_of past) p))

module _ (history : List Entry) where
  object_written : (p : Designation) → flat_map (piece_text history) (object_pieces (deeds history) p) ≡ object_lines (deeds history) p
  object_written p =
      let past = deeds history in
      let text = piece_text history in
      ap (λ (l : List ℕ). object_head past p ++ l)
      (flat_map-append text (map (ObjectName p) (members (links_of past) p)) (map (ObjectLine p) (in_object past p))
      ∙ ap (λ (l : List ℕ). l ++ flat_map text (map (ObjectLine p) (in_object past p))) (flat_map-map text (ObjectName p) (members (links_of past) p) ∙ names_written past p)
      ∙ ap (λ (l : List ℕ). flat_map also_line (others past p) ++ l) (flat_map-map text (ObjectLine p) (in_object past p)))

  named_written : (t : ℕ) (name : Option TrackName) (is_so : Bool) (observations : List ℕ) → cond is_so (option_map_or (track_head_line t) name []) [] ++ flat_map (λ k. option_map_or (λ n. track_line (deeds history) n k) name []) (cond is_so observations [])
      ≡ cond is_so (option_map_or (λ n. track_head_line t n ++ flat_map (track_line (deeds history) n) observations) name []) []
  named_written t name false observations = refl
  named_written t None true observations = none_of (λ (k : ℕ). option_map_or (λ n. track_line (deeds history) n k) None []) (λ k. refl) observations
  named_written t (Some name) true observations = refl

  named_lines : (t : ℕ) (name : Option TrackName) → option_map_or (λ n. track_head_line t n ++ flat_map (track_line (deeds history) n) (in_track (deeds history) t)) name [] ≡ named_track_lines (deeds history) t name
  named_lines t None = refl
  named_lines t (Some name) = refl

  track_written : (t : ℕ) → flat_map (piece_text history) (track_pieces (deeds history) t) ≡ cond (is_listed (deeds history) t) (track_lines (deeds history) t) []
  track_written t =
      let past = deeds history in
      ap (λ (l : List ℕ). track_head past t ++ l) (flat_map-map (piece_text history) (TrackLine t) (listed_in past t))
      ∙ named_written t (name_of_track (holdings past).tracklets t) (is_listed past t) (in_track past t)
      ∙ ap (λ (l : List ℕ). cond (is_listed past t) l []) (named_lines t (name_of_track (holdings past).tracklets t))

  objects_written : (names : List Designation) → flat_map (piece_text history) (flat_map (object_pieces (deeds history)) names) ≡ flat_map (object_lines (deeds history)) names
  objects_written names = flat_map-flat_map (piece_text history) (object_pieces (deeds history)) names ∙ flat_map-same _ _ object_written names

  tracks_written : flat_map (piece_text history) (tracks_after (deeds history) 0) ≡ flat_map (track_lines (deeds history)) (listed_tracks (deeds history)) ++ line_of (codes "end")
  tracks_written =
      let past = deeds history in
      let numbers = numbers_to (length (holdings past).tracklets) in
      flat_map-append (piece_text history) (flat_map (track_pieces past) numbers) (End ∷ [])
      ∙ ap (λ (l : List ℕ). l ++ line_of (codes "end"))
      (flat_map-flat_map (piece_text history) (track_pieces past) numbers
      ∙ flat_map-same _ _ track_written numbers
      ∙ sym (ap (flat_map (track_lines past)) (filter-filter (has_live past) (has_no_home (holdings past).tracklets) numbers)
      ∙ flat_map-filter (track_lines past) (is_listed past) numbers))

  pub all_written : flat_map (piece_text history) (Front ∷ objects_left (deeds history) (principals (links_of (deeds history)))) ≡ catalogue history
  unfolding catalogue
  all_written =
      let past = deeds history in
      let names = principals (links_of past) in
      ap (λ (l : List ℕ). piece_text history Front ++ l)
      (flat_map-append (piece_text history) (flat_map (object_pieces past) names) (tracks_after past 0)
      ∙ ap (λ (l : List ℕ). l ++ flat_map (piece_text history) (tracks_after past 0)) (objects_written names)
      ∙ ap (λ (l : List ℕ). flat_map (object_lines past) names ++ l) tracks_written)
      ∙ append_assoc (line_of (codes "catalogue 1")) (tally_text (tally history)) (flat_map (object_lines past) names ++ (flat_map (track_lines past) (listed_tracks past) ++ line_of (codes "end")))

  -- ---- one step

  pub stepped : (old new : Walk) (piece : Piece) (before text after : List ℕ) → pieces_left (deeds history) old ≡ piece ∷ pieces_left (deeds history) new → turns_left new.stage ≤ turns_left old.stage + 4
      → text ≡ piece_text history piece → after ≡ before ++ text → Steps history old new before after
  stepped old new piece before text after is fewer text_is grew =
      record {
        text =
            ap (λ (l : List ℕ). l ++ to_write history new) (grew ∙ ap (λ (l : List ℕ). before ++ l) text_is)
            ∙ append_assoc before (piece_text history piece) (to_write history new)
            ∙ ap (λ (l : List ℕ). before ++ l) (sym (ap (flat_map (piece_text history)) is));
        nearer = omega (arith, ap length is, fewer);
      }

-- ---- what is left

length-numbers_to : (n : ℕ) → length (numbers_to n) ≡ n
length-numbers_to zero = refl
length-numbers_to (suc n) = omega (arith, length-append (numbers_to n) (suc n ∷ []), length-numbers_to n)

below_or_last : (b m : ℕ) → b < suc m → (b < m) ⊎ (b ≡ m)
below_or_last b m under = elim (cases_lt b m) [ inl less ↦ inl less | inr more ↦ inr (omega arith) ]

numbers_from : (n before : ℕ) → before < n → drop before (numbers_to n) ≡ suc before ∷ drop (suc before) (numbers_to n)
numbers_from zero before below = absurd (omega arith)
numbers_from (suc n) before below = by (λ less. numbers_from n before less) (below_or_last before n below)
  where
    by : (before < n → drop before (numbers_to n) ≡ suc before ∷ drop (suc before) (numbers_to n)) → (before < n) ⊎ (before ≡ n) → drop before (numbers_to (suc n)) ≡ suc before ∷ drop (suc before) (numbers_to (suc n))
    by rest (inl less) =
        drop-append-le before (numbers_to n) (suc n ∷ []) (omega (arith, length-numbers_to n))
        ∙ ap (λ (l : List ℕ). l ++ suc n ∷ []) (rest less)
        ∙ ap (λ (l : List ℕ). suc before ∷ l) (sym (drop-append-le (suc before) (numbers_to n) (suc n ∷ []) (omega (arith, length-numbers_to n))))
    by rest (inr same) =
        drop_at (numbers_to n) (suc n ∷ []) before (omega (arith, length-numbers_to n))
        ∙ ap (λ (m : ℕ). suc m ∷ []) (sym same)
        ∙ ap (λ (l : List ℕ). suc before ∷ l) (sym (drop_all (suc before) (numbers_to n ++ suc n ∷ []) (omega (arith, length-append (numbers_to n) (suc n ∷ []), length-numbers_to n))))

pub tracks_more : (past : List Deed) (before : ℕ) → before < length (holdings past).tracklets
    → tracks_after past before ≡ TrackHead (suc before) ∷ (map (TrackLine (suc before)) (listed_in past (suc before)) ++ tracks_after past (suc before))
tracks_more past before below =
    let n = length (holdings past).tracklets in
    let lines : List Piece = map (TrackLine (suc before)) (listed_in past (suc before)) in
    ap (λ (l : List ℕ). flat_map (track_pieces past) l ++ End ∷ []) (numbers_from n before below)
    ∙ ap (λ (l : List Piece). TrackHead (suc before) ∷ l) (append_assoc lines (flat_map (track_pieces past) (drop (suc before) (numbers_to n))) (End ∷ []))

pub tracks_end : (past : List Deed) (after : ℕ) → length (holdings past).tracklets ≤ after → tracks_after past after ≡ End ∷ []
tracks_end past after past_all =
    let n = length (holdings past).tracklets in
    ap (λ (l : List ℕ). flat_map (track_pieces past) l ++ End ∷ []) (drop_all after (numbers_to n) (omega (arith, length-numbers_to n)))

-- the item at a place is the first of what is left from there
pub left_from : {X : Type 0} (xs : List X) (at : ℕ) (x : X) → slice_get xs at ≡ Some x → drop at xs ≡ x ∷ drop (suc at) xs
left_from [] at x is = absurd cc
left_from (y ∷ ys) zero x is = let same : y ≡ x = cc in ap (λ (z : _). z ∷ ys) same
left_from (y ∷ ys) (suc at) x is = left_from ys at x is
