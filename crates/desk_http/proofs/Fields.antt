-- The fields of a name, one field after the other.
use Rattle.std.proofs.Common.{◌≡◌, ℕ, List, [], ◌∷◌, ◌++◌, ap, subst}
use Rattle.std.specs.Borrow.{Bor}
use Rattle.desk_http.specs.declared.head.Named.{Named}
use Rattle.desk_http.specs.declared.head.Named.TheVariants as named
use Rattle.desk_http.specs.Fronts.{IsNamed}

-- one field more after one, and after several
pub after_one : (n : Named) (v : Bor (List ℕ)) (values : List (List ℕ)) (value : List ℕ) → n ≡ named.Once v → IsNamed n values → IsNamed named.Repeated (values ++ value ∷ [])
after_one n v values value is read = (v.now, value, [], ap (λ t. t ++ value ∷ []) (subst (λ (n : Named). IsNamed n values) is read))

pub after_more : (n : Named) (values : List (List ℕ)) (value : List ℕ) → n ≡ named.Repeated → IsNamed n values → IsNamed named.Repeated (values ++ value ∷ [])
after_more n values value is read = longer values value (subst (λ (n : Named). IsNamed n values) is read)
  where
    longer : (values : List (List ℕ)) (value : List ℕ) → IsNamed named.Repeated values → IsNamed named.Repeated (values ++ value ∷ [])
    longer values value (a, b, more, is) = (a, b, more ++ value ∷ [], ap (λ t. t ++ value ∷ []) is)
