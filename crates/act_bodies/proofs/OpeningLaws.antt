-- The ranges of what the body of `opening` gives.
use Rattle.std.proofs.Common.{◌≡◌, ℕ, ◌≤◌, Bool, true, false, cond, List, [], ◌∷◌, length, codes, Option, Some, None, Ok, Err, refl, subst}
use Rattle.std.specs.Prelude.{IsTrue}
use Rattle.std.specs.List.{list_all, AllByRecursion}
use Rattle.std.specs.Result.{result_ok}
use Rattle.std.proofs.lemmas.Bool.{and_parts, leb-true, ltb-true}
use Rattle.std.proofs.lemmas.Option.{cond_some}
use Rattle.serde_json.specs.Data.{Data}
use Rattle.ascii_text.specs.Judged.{answer_of}
use Rattle.ascii_text.specs.Reading.{◌>>=◌, bind_some}
use Rattle.packed_names.specs.declared.half_month.HalfMonth.{HalfMonth}
use Rattle.packed_names.specs.declared.name.NameFault.{NameFault}
use Rattle.packed_names.specs.Ranges.{IsHalfMonth, limit_of}
use Rattle.packed_names.specs.PrintedReading.{half_in}
use Rattle.packed_names.specs.Judging.{is_half_month, is_within, answered}
use Rattle.act_bodies.specs.declared.opening.Opening.{Opening}
use Rattle.act_bodies.specs.Members.{object_of, text_in, half_month_of, half_month_in, given_in, wholes_in, are_carried, carried_in}
use Rattle.act_bodies.specs.Bodies.{opening_in, opening_of, IsOpening}
use Rattle.act_bodies.proofs.DesignateLaws.{distinct}
use Rattle.act_bodies.proofs.NumberLaws.{bounded_in-within}

-- a half-month that passes its test
in_years : (half : HalfMonth) → is_half_month half ≡ true → IsHalfMonth half
in_years half is =
    let parts = and_parts _ _ is in
    let years = and_parts _ _ parts.0 in
    record { year_from = leb-true 1925 half.year years.0; year_to = leb-true half.year 2099 years.1; index = ltb-true half.index 24 parts.1 }

-- a value that is answered where it passes its test
passed : (test : Bool) (fault : NameFault) (read half : HalfMonth) → result_ok (cond test (Ok read) (Err fault)) ≡ Some half → (test ≡ true) × (read ≡ half)
passed true fault read half found = (refl, cc)
passed false fault read half found = absurd cc

half_answered : (read : Option HalfMonth) (half : HalfMonth) → result_ok (answered is_half_month read) ≡ Some half → IsHalfMonth half
unfolding answer_of
half_answered None half found = absurd cc
half_answered (Some read) half found =
    let tested = passed (is_half_month read) _ read half found in
    subst IsHalfMonth tested.1 (in_years read tested.0)

half_month_in-half : (value : Data) (half : HalfMonth) → half_month_in value ≡ Some half → IsHalfMonth half
unfolding half_month_in half_month_of
half_month_in-half value half found =
    let text = bind_some (text_in (codes "half") value) half_month_of half found in
    half_answered (half_in text.0) half text.2

all_within : (given : ℕ) (orders : List ℕ) → list_all (is_within 1 given) orders ≡ true → AllByRecursion (λ order. (1 ≤ order) × (order ≤ given)) orders
all_within given [] are = tt
all_within given (order ∷ orders) are =
    let parts = and_parts _ _ are in
    let bounds = and_parts _ _ parts.0 in
    ((leb-true 1 order bounds.0, leb-true order given bounds.1), all_within given orders parts.1)

carried_in-are : (given : ℕ) (value : Data) (orders : List ℕ) → carried_in given value ≡ Some orders → IsTrue (are_carried given orders)
unfolding carried_in
carried_in-are given value orders found =
    let read = bind_some (wholes_in (codes "carried") value) (λ numbers. cond (are_carried given numbers) (Some numbers) None) orders found in
    let tested = cond_some (are_carried given read.0) read.0 orders read.2 in
    subst (λ (numbers : List ℕ). IsTrue (are_carried given numbers)) tested.1 tested.0

-- an opening of parts that are in their ranges
of_parts : (opening : Opening) → IsHalfMonth opening.half → (1 ≤ opening.given) × (opening.given ≤ limit_of opening.half) → IsTrue (are_carried opening.given opening.carried) → IsOpening opening
of_parts opening half given carried =
    let parts = and_parts _ _ carried in
    let bounds = and_parts _ _ parts.0 in
    record {
      half = half;
      given_from = given.0;
      given_to = given.1;
      few = leb-true (length opening.carried) 100 bounds.0;
      orders = all_within opening.given opening.carried bounds.1;
      different = distinct opening.carried parts.1;
    }

pub opening_in-is_opening : (value : Data) (opening : Opening) → opening_in value ≡ Some opening → IsOpening opening
unfolding opening_in
opening_in-is_opening value opening found =
    let h = bind_some (half_month_in value) (λ half. given_in half value >>= λ given. carried_in given value >>= λ carried. Some (record { half = half; given = given; carried = carried })) opening found in
    let g = bind_some (given_in h.0 value) (λ given. carried_in given value >>= λ carried. Some (record { half = h.0; given = given; carried = carried })) opening h.2 in
    let c = bind_some (carried_in g.0 value) (λ carried. Some (record { half = h.0; given = g.0; carried = carried })) opening g.2 in
    let same : record { half = h.0; given = g.0; carried = c.0 } ≡ opening = cc in
    subst IsOpening same (of_parts (record { half = h.0; given = g.0; carried = c.0 }) (half_month_in-half value h.0 h.1) (bounded_in-within 1 (limit_of h.0) (codes "given") value g.0 g.1) (carried_in-are g.0 value c.0 c.1))

-- what the body of `opening` gives is in its ranges
pub opening_of-is_opening : (bytes : List ℕ) (opening : Opening) → opening_of bytes ≡ Some opening → IsOpening opening
unfolding opening_of
opening_of-is_opening bytes opening found =
    let object = bind_some (object_of 3 bytes) opening_in opening found in
    opening_in-is_opening object.0 opening object.2
