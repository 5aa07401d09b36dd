-- The cells of a line, cut off its front one after another.
use Rattle.std.proofs.Common.{◌≡◌, ℕ, ◌+◌, ◌<◌, ◌≤◌, List, [], ◌∷◌, length, drop, get_or, ap, arith}
use Rattle.std.proofs.lemmas.List.{length-drop, drop_more}

-- the cell in this place, and those after it, where the cells from this place on begin with it
pub record Reached (cs : List (List ℕ)) (place : ℕ) (cell : List ℕ) (more : List (List ℕ)) : Type 0 where
  pub here : get_or cs place [] ≡ cell
  pub after : drop (place + 1) cs ≡ more
  pub within : place < length cs

pub reached : (cs : List (List ℕ)) (place : ℕ) (cell : List ℕ) (more : List (List ℕ)) → drop place cs ≡ cell ∷ more → Reached cs place cell more
reached cs place cell more is =
    let within : place < length cs = omega (arith, length-drop place cs, ap length is) in
    let parts = drop_more cs place [] within in
    record { here = cc; after = cc; within = within }

-- where no cell is left, there are no more than were passed
pub all_passed : (cs : List (List ℕ)) (place : ℕ) → drop place cs ≡ [] → length cs ≤ place
all_passed cs place none = omega (arith, length-drop place cs, ap length none)
