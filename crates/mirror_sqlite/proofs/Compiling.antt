-- Statements that are compiled and not run.
use Rattle.std.proofs.Common.{◌≡◌, ◌≤◌, ℕ, List, [], ◌∷◌, length, Result, Ok, Err, subst}
use Rattle.std.specs.Prelude.{IsOkAnd, OnOk}
use Rattle.std.specs.List.{AllByRecursion}
use Rattle.sqlite_resolve.specs.declared.compiled.Compiled.{Compiled}
use Rattle.sqlite_resolve.specs.declared.error.CompileError.{CompileError}
use Rattle.sqlite.specs.Outline.{Outline}
use Rattle.sqlite.specs.Effect.{Database}
use Rattle.sqlite.specs.Listing.{understood}
use Rattle.sqlite.specs.State.{State}
use Rattle.sqlite.specs.Steps.{Outlines}
use Rattle.mirror_sqlite.specs.Texts.{IsUnderstood}

-- what a statement was made of is one statement
pub outlined : (found : Result Compiled CompileError) (text : List ℕ) (made : Outline) → made.text ≡ text → Outlines found made
    → IsOkAnd found (λ statement. length text ≤ statement.tail)
outlined (Ok statement) text made is whole = subst (λ t. length t ≤ statement.tail) is whole.0
outlined (Err error) text made is whole = absurd whole

-- what the same tables have a meaning for
pub understood_before : (old mid : State) (text : List ℕ) → mid.now ≡ old.now → IsUnderstood mid text → IsUnderstood old text
understood_before old mid text same is =
    subst (λ (now : Database). IsOkAnd (understood now.schema text) (λ statement. length text ≤ statement.tail)) same is

-- the last one is understood by the tables that understood the first three
pub all_understood : {A E : Type 0} (old mid : State) (a b c d : List ℕ) (result : Result A E) → mid.now ≡ old.now
    → IsUnderstood old a → IsUnderstood old b → IsUnderstood old c → OnOk result (IsUnderstood mid d)
    → OnOk result (AllByRecursion (IsUnderstood old) (a ∷ b ∷ c ∷ d ∷ []))
all_understood old mid a b c d (Ok x) same one two three four =
    (one, (two, (three, (understood_before old mid d same four, tt))))
all_understood old mid a b c d (Err e) same one two three four = four
