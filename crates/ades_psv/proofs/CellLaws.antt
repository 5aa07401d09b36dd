-- The cells of a line, from the front.
use Rattle.std.proofs.Common.{◌≡◌, ℕ, ◌+◌, Bool, true, false, eqb, List, [], ◌∷◌, ◌++◌, length, map, All, Option, Some, None, Bor, refl, ap, ◌∙◌}
use Rattle.std.specs.Prelude.{count_by, is_some, ◌||◌, cond, IfSome, IfNone}
use Rattle.std.specs.Option.{option_map_or}
use Rattle.std.specs.List.{list_any, position_from}
use Rattle.std.proofs.lemmas.List.{length-map}
use Rattle.std.proofs.lemmas.List.Splits.{slice_split_none, slice_split_at, length-slice_split}
use Rattle.ascii_text.specs.Blanks.{trimmed}
use Rattle.ades_psv.specs.Cells.{pieces, cells}

-- the first cell ends at the first bar, or it is all there is
pub cells_cut : (line piece cell : List ℕ) (behind : Option (Bor (List ℕ))) → cell ≡ trimmed piece → All (λ b. eqb b 124 ≡ false) piece → IfSome behind (λ rest. line ≡ piece ++ 124 ∷ rest.now)
    → IfNone behind (piece ≡ line) → cells line ≡ cell ∷ option_map_or (λ rest. cells rest.now) behind []
unfolding cells
cells_cut line piece cell None is none parts whole = rw (← whole, is) (ap (map trimmed) (slice_split_none (λ b. eqb b 124) piece none))
cells_cut line piece cell (Some rest) is none parts whole = rw (parts, is) (ap (map trimmed) (slice_split_at (λ b. eqb b 124) piece 124 rest.now none refl))

-- a line has one cell more than bars
pub length_cells : (line : List ℕ) → length (cells line) ≡ count_by (λ b. eqb b 124) line + 1
unfolding cells
length_cells line = length-map (pieces line) trimmed ∙ length-slice_split (λ b. eqb b 124) line

some_or : (b : Bool) (n : ℕ) (o : Option ℕ) (any : Bool) → is_some o ≡ any → is_some (cond b (Some n) o) ≡ b || any
some_or true n o any is = refl
some_or false n o any is = is

-- a place is found where one of the texts passes
pub found_in_any : {X : Type 0} (test : X → Bool) (n : ℕ) (xs : List X) → is_some (position_from test n xs) ≡ list_any test xs
found_in_any test n [] = refl
found_in_any test n (x ∷ xs) = some_or (test x) n (position_from test (n + 1) xs) (list_any test xs) (found_in_any test (n + 1) xs)
