-- The texts of the statements on rows, and what it is that the tables have a meaning for them.
use Rattle.std.specs.Prelude.{◌≡◌, ◌≤◌, ℕ, List, [], ◌∷◌, length, codes, IsOkAnd}
use Rattle.sqlite.specs.Listing.{understood}
use Rattle.sqlite.specs.State.{State}

abbrev pub add_object : List ℕ
add_object = codes "INSERT INTO object VALUES (?1, ?2, ?3, ?4)"

abbrev pub add_sight : List ℕ
add_sight = codes "INSERT INTO sight VALUES (?1, ?2, ?3, ?4, ?5, ?6)"

abbrev pub list_objects : List ℕ
list_objects = codes "SELECT place, principal, number, observations FROM object ORDER BY place"

abbrev pub list_sights : List ℕ
list_sights =
    codes "SELECT id, object, time, ra, dec, station FROM sight WHERE time >= ?1 AND time < ?2 ORDER BY time, id"

-- the statements on rows
abbrev pub row_texts : List (List ℕ)
row_texts = add_object ∷ add_sight ∷ list_objects ∷ list_sights ∷ []

-- the tables have a meaning for the text, which is one statement
abbrev pub IsUnderstood : State → List ℕ → Type 0
IsUnderstood s text = IsOkAnd (understood s.now.schema text) (λ statement. length text ≤ statement.tail)

-- the tables and the last commit are what they were
abbrev pub IsAsItWas : State → State → Type 0
IsAsItWas old new = (new.now ≡ old.now) × (new.committed ≡ old.committed)
