-- The two lines that are written at the end.
use Rattle.std.specs.Prelude.{ℕ, List, [], ◌∷◌, ◌++◌, codes, decimal}

-- how many connections there were, and how many entries the history has, a line each
unfoldable pub summary : ℕ → ℕ → List ℕ
summary connections entries =
    codes "connections " ++ (decimal connections ++ (codes "\nentries " ++ (decimal entries ++ 10 ∷ [])))
