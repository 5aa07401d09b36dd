-- What holds of the forms of names, whoever reads or writes them.
use Rattle.std.specs.Prelude.{◌≡◌, ◌↔◌, ℕ, true, List, Ok}
use Rattle.std.specs.Cmp.{IsTotalOrder}
use Rattle.std.specs.Ordering.{eq_by_cmp}
use Rattle.packed_names.specs.declared.half_month.HalfMonth.{HalfMonth}
use Rattle.packed_names.specs.declared.name.Designation.{Designation}
use Rattle.packed_names.specs.contracts.name.DesignationOrd.TheImpl as derived
use Rattle.packed_names.specs.Order.{half_cmp, designation_cmp}
use Rattle.packed_names.specs.declared.name.Name.{Name}
use Rattle.packed_names.specs.Packed.{IsPackedAs}
use Rattle.packed_names.specs.PackedReading.{packed_in}
use Rattle.packed_names.specs.Printed.{IsPrintedAs}
use Rattle.packed_names.specs.PrintedReading.{printed_in}
use Rattle.packed_names.specs.Judging.{is_in_range, answered}

pub record NameLaws : Type 0 where
  -- a text is answered with a name exactly where it is the name's packed form
  pub packed_exactly : (text : List ℕ) (name : Name) → (answered is_in_range (packed_in text) ≡ Ok name)
      ↔ IsPackedAs name text
  -- a text is answered with a name exactly where it is the name's printed form
  pub printed_exactly : (text : List ℕ) (name : Name) → (answered is_in_range (printed_in text) ≡ Ok name)
      ↔ IsPrintedAs name text

-- What holds of the orders of half-months and designations.
pub record OrderLaws : Type 0 where
  -- half-months compare equal exactly where they are the same
  pub halves : (one other : HalfMonth) → (eq_by_cmp half_cmp one other ≡ true) ↔ (one ≡ other)
  -- designations compare equal exactly where they are the same
  pub designations : (one other : Designation) → (eq_by_cmp designation_cmp one other ≡ true) ↔ (one ≡ other)
  -- the order of designations is total
  pub total : IsTotalOrder designation_cmp
  -- designations compare in it
  pub compared : (one other : Designation) → (derived.ghosts).cmp one other ≡ designation_cmp one other
