-- An office in memory, for tests.
use Rattle.std.specs.Prelude.{ℕ, pos, ◌==◌, nat_le, Option, Some, None, if◌then◌else◌}
use Rattle.std.specs.Ordering.{int_eq}
use Rattle.packed_names.specs.declared.name.Designation.{Designation}
use Rattle.packed_names.specs.declared.name.Designation.TheVariants as designations
use Rattle.packed_names.specs.declared.name.Name.{Name}
use Rattle.packed_names.specs.declared.name.Name.TheVariants as names
use Rattle.act_model.specs.Known.{KnownOffice}

-- 2024 E with this order
abbrev pub order_of_2024 : ℕ → Designation
order_of_2024 order = designations.Provisional (record { half = record { year = 2024; index = 4 }; order = order })

-- designations of the orders 1 and 2 were given, and number 1 to 2024 EA
abbrev pub given_name : Name → Option Designation
given_name (names.Number number) = if number.0 == 1 then Some (order_of_2024 1) else None
given_name (names.Designation (designations.Provisional p)) =
    if nat_le p.order 2 then Some (designations.Provisional p) else None
given_name (names.Designation (designations.Survey survey number)) = None

-- one live observation, whose time alone is asked for; each designation is its own principal
abbrev pub memory_office : KnownOffice
memory_office = record {
  has_live = λ station time ra dec. int_eq time (pos 1600000000000000000);
  stands_for = given_name;
  principal = λ d. Some d;
}
