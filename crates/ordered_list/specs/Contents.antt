-- What contracts see of an ordered list, and how it is kept.
use Rattle.std.specs.Prelude.{ℕ, ◌+◌, ◌<◌, ◌≤◌, List, length, refl}
use Rattle.std.specs.Coded.{Coded, code_by, coded×, coded_ℕ, coded_list}
use Rattle.std.specs.declared.cmp.Ordering.{Ordering}
use Rattle.ordered_list.specs.Orders.{IsStrictlySorted, AreApart, merged}

-- the items in their order, and for how many more there is room
pub record Contents (T : Type 0) : Type 0 where
  pub items : List T
  pub room : ℕ

-- contents are stored as the pair of their fields
abbrev pub contents_code : {T : Type 0} → Coded T → Coded (Contents T)
contents_code {T} code =
    code_by (List T × ℕ) (coded× (coded_list code) coded_ℕ) (λ c. (c.items, c.room))
    (λ p. record { items = p.0; room = p.1 }) (λ _. refl)

-- room for one item at most was used, and no memory was taken
abbrev pub UsesOne : ℕ → ℕ → Type 0
UsesOne old new = (old ≤ new + 1) × (new ≤ old)

-- two lists in order, of whose items no two tie
pub record IsPair {T : Type 0} (cmp : T → T → Ordering) (settled newest : List T) : Type 0 where
  pub settled_sorted : IsStrictlySorted cmp settled
  pub newest_sorted : IsStrictlySorted cmp newest
  pub apart : AreApart cmp settled newest

-- the newest items are to be merged into the recent ones, and these into the settled ones: all are in order, and no two
-- of them tie; among the settled ones there is room for all, and among the newest for one at least
pub record IsArranged {T : Type 0} (cmp : T → T → Ordering) (settled recent newest : List T)
    (capacity short_capacity : ℕ) : Type 0 where
  pub older : IsPair cmp settled recent
  pub all : IsPair cmp (merged cmp settled recent) newest
  pub fits : length settled + length recent + length newest ≤ capacity
  pub short_room : 0 < short_capacity
