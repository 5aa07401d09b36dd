-- Places in two lists that are merged.
use Rattle.std.specs.Prelude.{ℕ, ◌+◌, ◌<◌, ◌≤◌, List, [], ◌∷◌, length, slice_index_or}
use Rattle.std.specs.declared.cmp.Ordering.{Ordering}
use Rattle.std.specs.Ordering.{match_ordering}

-- how many items at the front are below the key
abbrev pub below : {T : Type 0} → (T → T → Ordering) → T → List T → ℕ
below cmp key [] = 0
below cmp key (first ∷ rest) = match_ordering (cmp first key) (below cmp key rest + 1) 0 0

-- this many of the newest items stand before a place of the merged list: an item stands there at the place that is the
-- sum of its places in both lists
pub record IsPassed {T : Type 0} (cmp : T → T → Ordering) (settled newest : List T) (place count : ℕ) : Type 0 where
  pub within : count ≤ length newest
  pub before : (j : ℕ) (d : T) → j < count → j + below cmp (slice_index_or newest j d) settled < place
  pub after : (j : ℕ) (d : T) → count ≤ j → j < length newest
      → place ≤ j + below cmp (slice_index_or newest j d) settled
