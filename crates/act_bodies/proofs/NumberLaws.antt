-- The first number of the body of `number`.
use Rattle.std.proofs.Common.{◌≡◌, ℕ, ◌≤◌, ◌&&◌, cond, List, codes, Some, None, subst}
use Rattle.std.specs.Prelude.{nat_le}
use Rattle.std.proofs.lemmas.Bool.{and_parts, leb-true}
use Rattle.std.proofs.lemmas.Option.{cond_some}
use Rattle.serde_json.specs.Data.{Data}
use Rattle.ascii_text.specs.Reading.{◌>>=◌}
use Rattle.ascii_text.specs.Reading.{bind_some}
use Rattle.packed_names.specs.declared.number.TheConstants.{GREATEST_NUMBER}
use Rattle.packed_names.specs.Ranges.{IsNumber}
use Rattle.act_bodies.specs.declared.number.Number.{Number}
use Rattle.act_bodies.specs.Members.{object_of, whole_in, bounded_in}
use Rattle.act_bodies.specs.Bodies.{number_in, number_of_body}

-- a bounded number is within its bounds
pub bounded_in-within : (least greatest : ℕ) (name : List ℕ) (value : Data) (n : ℕ) → bounded_in least greatest name value ≡ Some n → (least ≤ n) × (n ≤ greatest)
unfolding bounded_in
bounded_in-within least greatest name value n found =
    let whole = bind_some (whole_in name value) (λ w. cond (nat_le least w && nat_le w greatest) (Some w) None) n found in
    let tested = cond_some (nat_le least whole.0 && nat_le whole.0 greatest) whole.0 n whole.2 in
    let parts = and_parts _ _ tested.0 in
    subst (λ (m : ℕ). (least ≤ m) × (m ≤ greatest)) tested.1 (leb-true least whole.0 parts.0, leb-true whole.0 greatest parts.1)

-- the first number of an object is one that a minor planet can have
number_in-first : (value : Data) (number : Number) → number_in value ≡ Some number → IsNumber number.first
unfolding number_in
number_in-first value number found =
    let a = bind_some (bounded_in 1 GREATEST_NUMBER (codes "first") value) (λ first. bounded_in 1 1000 (codes "most") value >>= λ most. Some (record { first = first; most = most })) number found in
    let b = bind_some (bounded_in 1 1000 (codes "most") value) (λ most. Some (record { first = a.0; most = most })) number a.2 in
    let same : a.0 ≡ number.first = cc in
    subst IsNumber same (bounded_in-within 1 GREATEST_NUMBER (codes "first") value a.0 a.1)

-- the first number of the body of `number` is one that a minor planet can have
pub number_of_body-first : (bytes : List ℕ) (number : Number) → number_of_body bytes ≡ Some number → IsNumber number.first
unfolding number_of_body
number_of_body-first bytes number found =
    let object = bind_some (object_of 2 bytes) number_in number found in
    number_in-first object.0 number object.2
