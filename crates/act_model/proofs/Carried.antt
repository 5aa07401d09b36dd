-- What holds of links as a designation is given holds where several are given.
use Rattle.std.proofs.Common.{List, [], ◌∷◌}
use Rattle.packed_names.specs.declared.provisional.Provisional.{Provisional as ProvisionalName}
use Rattle.packed_names.specs.declared.name.Designation.TheVariants.{Provisional}
use Rattle.identify_core.specs.Acts.{LinkAct}
use Rattle.identify_core.specs.Acts.LinkAct.{Given}
use Rattle.act_model.specs.Designations.{with_all_given}

pub all_keep : (P : List LinkAct → Type 0) → ((d : ProvisionalName) (acts : List LinkAct) → P acts → P (Given (Provisional d) ∷ acts)) → (ds : List ProvisionalName) (acts : List LinkAct)
    → P acts → P (with_all_given ds acts)
all_keep P keeps [] acts is = is
all_keep P keeps (d ∷ ds) acts is = all_keep P keeps ds (Given (Provisional d) ∷ acts) (keeps d acts is)
