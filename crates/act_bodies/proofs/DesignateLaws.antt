-- The tracklets of the body of `designate`.
use Rattle.std.proofs.Common.{◌≡◌, ℕ, ◌||◌, true, false, Bool, List, [], ◌∷◌, eqb, refl, sym}
use Rattle.std.specs.Prelude.{IsTrue}
use Rattle.std.specs.List.{IsDistinct, AllByRecursion, list_any}
use Rattle.std.proofs.lemmas.Bool.{and_parts, not-true, eq-eqb, ne_eqb, both_ways, true≢false}
use Rattle.act_bodies.specs.Members.{are_different}

or_parts : (x y : Bool) → (x || y) ≡ false → (x ≡ false) × (y ≡ false)
or_parts false y none = (refl, none)
or_parts true y none = absurd (true≢false none)

-- a number that isn't among others differs from each
apart : (first : ℕ) (others : List ℕ) → list_any (λ other. eqb other first) others ≡ false → AllByRecursion (λ other. eqb first other ≡ false) others
apart first [] none = tt
apart first (other ∷ others) none =
    let parts = or_parts _ _ none in
    (ne_eqb first other (λ same. both_ways (eqb other first) parts.0 (eq-eqb other first (sym same))), apart first others parts.1)

pub distinct : (numbers : List ℕ) → IsTrue (are_different numbers) → IsDistinct eqb numbers
unfolding IsDistinct
distinct [] h = tt
distinct (first ∷ others) h =
    let parts = and_parts _ _ h in
    (apart first others (not-true _ parts.0), distinct others parts.1)
