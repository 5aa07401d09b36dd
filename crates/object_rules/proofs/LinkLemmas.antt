-- Designations that are new to links, given one after the other.
use Rattle.std.proofs.Common.{◌≡◌, ℕ, List, ◌∷◌, ◌∙◌}
use Rattle.packed_names.specs.declared.half_month.HalfMonth.{HalfMonth}
use Rattle.packed_names.specs.declared.name.Designation.TheVariants.{Provisional}
use Rattle.identify_core.specs.declared.link.Link.{Link}
use Rattle.identify_core.specs.Acts.{LinkAct}
use Rattle.identify_core.specs.Acts.LinkAct.{Given}
use Rattle.identify_core.specs.Principals.{StandFor}
use Rattle.act_model.specs.Designations.{with_order, with_orders}
use Rattle.object_rules.specs.Noting.{AreUnlinked}

-- the others are new to the links with the first of them
pub others_are_new : (half : HalfMonth) (order : ℕ) (more : List ℕ) (old new : List Link) → AreUnlinked old (with_orders half (order ∷ more))
    → ((acts : List LinkAct) → StandFor old acts → StandFor new (Given (Provisional (with_order half order)) ∷ acts)) → AreUnlinked new (with_orders half more)
others_are_new half order more old new (acts, stand, (unknown, others)) grows =
    (Given (Provisional (with_order half order)) ∷ acts, grows acts stand, others)
