use Rattle.std.proofs.Common.{subst, true, ◌≡◌}
use Rattle.std.specs.Ordering.{eq_by_cmp}
use Rattle.packed_names.specs.declared.half_month.HalfMonth.{HalfMonth}
use Rattle.packed_names.specs.declared.name.Designation.{Designation}
use Rattle.packed_names.specs.Order.{half_cmp, designation_cmp}
use Rattle.packed_names.proofs.ComparingLaws.{half_same, half_itself, designation_same, designation_itself, designation_total, designation_order}
use Rattle.packed_names.proofs.laws.orders.Goals as goal

pub returns : goal.returns
returns c = record {
  halves = λ one other. (half_same one other, λ same. subst (λ (h : HalfMonth). eq_by_cmp half_cmp one h ≡ true) same (half_itself one));
  designations = λ one other. (designation_same one other, λ same. subst (λ (d : Designation). eq_by_cmp designation_cmp one d ≡ true) same (designation_itself one));
  total = designation_total;
  compared = designation_order;
}
