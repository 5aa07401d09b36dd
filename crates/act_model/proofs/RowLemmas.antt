-- Tables of conditions of which none holds.
use Rattle.std.proofs.Common.{◌≡◌, Bool, true, false, cond, List, [], ◌∷◌, ◌++◌, Option, Some, None, refl}
use Rattle.std.specs.Prelude.{not}
use Rattle.act_model.specs.Rows.{first_row}

abbrev pub AreOff : {A : Type 0} → List (Bool × A) → Type 0
AreOff [] = Unit {0}
AreOff (row ∷ rows) = (row.0 ≡ false) × AreOff rows

row_off : {A : Type 0} (b : Bool) (x : A) (rest : Option A) → cond b (Some x) rest ≡ None → (b ≡ false) × (rest ≡ None)
row_off true x rest is = absurd cc
row_off false x rest is = (refl, is)

pub rows_off : {A : Type 0} (rows : List (Bool × A)) → first_row rows ≡ None → AreOff rows
rows_off [] is = tt
rows_off (row ∷ rows) is = let off = row_off row.0 row.1 (first_row rows) is in (off.0, rows_off rows off.1)

pub behind_off : {A : Type 0} (rows others : List (Bool × A)) → AreOff (rows ++ others) → AreOff others
behind_off [] others off = off
behind_off (row ∷ rows) others off = behind_off rows others off.1

pub not_off : (b : Bool) → not b ≡ false → b ≡ true
not_off true is = refl
not_off false is = absurd cc

pub before_off : {A : Type 0} (rows others : List (Bool × A)) → AreOff (rows ++ others) → AreOff rows
before_off [] others off = tt
before_off (row ∷ rows) others off = (off.0, before_off rows others off.1)
