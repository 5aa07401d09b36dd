-- What came out of a source, and what is left there. The lemmas range over every source and over what was awaited, so
-- that no clause can hold them.
use Rattle.std.proofs.Common.{◌≡◌, List, [], ◌++◌, ℕ, Option, Some, None, refl, sym, ap, ◌∙◌, subst, inl, inr}
use Rattle.std.proofs.lemmas.List.{append-nil}
use Rattle.std.specs.Prelude.{IfSome}
use Rattle.std.specs.Io.KnownBytes.{Consumes, IsAtEnd}
use Rattle.desk_io.specs.Reads.{Passes, Comes, Comes-nil}
use Rattle.read_ahead.specs.Reading.{NoneComes, Remains, Supplies}

-- what is left, and nothing where that isn't known
pub remaining : (left : Option (List ℕ)) → (more : List ℕ) × Remains left more
remaining None = ([], refl)
remaining (Some left) = (left, refl)

-- the bytes that a source held are those that came and those that are left
all_of : (before after : Option (List ℕ)) (came more : List ℕ) → Consumes before after came → Remains after more
    → IfSome before (λ bytes. bytes ≡ came ++ more)
all_of None after came more consumed rest = tt
all_of (Some bytes) None came more consumed rest = absurd consumed
all_of (Some bytes) (Some left) came more consumed rest = consumed ∙ ap (λ (l : List ℕ). came ++ l) rest

-- at its end nothing is left
pub none_left : (after : Option (List ℕ)) (more : List ℕ) → IsAtEnd after → Remains after more → more ≡ []
none_left None more end rest = rest
none_left (Some left) more end rest = sym rest ∙ end

-- no message stands before what is left, where none comes
pub none_before : (IsNone : List ℕ → Type 0) (front more : List ℕ) (left : Option (List ℕ))
    → NoneComes IsNone front left → Remains left more → IsNone (front ++ more)
none_before IsNone front more left (inl never) rest = never more
none_before IsNone front more left (inr (none, some, end)) rest =
    subst IsNone (sym (ap (λ (r : List ℕ). front ++ r) (none_left left more end rest) ∙ append-nil front)) none

module _ {S : Type 0} (left : S → Option (List ℕ)) (gives : Passes S) where
  -- bytes came
  pub supplies : (Asks : List ℕ → Type 0) (a b : S) (came : List ℕ) → Comes left gives Asks a b came
      → Supplies left gives Asks a b came (remaining (left b)).0
  supplies Asks a b came comes =
      let r = remaining (left b) in
      record { whole = all_of (left a) (left b) came r.0 comes.consumed r.1; rest = r.1; comes = comes }

  -- none came
  pub supplies_nothing : (Asks : List ℕ → Type 0) (a : S) → Supplies left gives Asks a a [] (remaining (left a)).0
  supplies_nothing Asks a = supplies Asks a a [] (Comes-nil left gives Asks a)
