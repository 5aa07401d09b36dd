-- Objects that have comets' names, the newest first.
use Rattle.std.specs.Prelude.{ℕ, ◌+◌, if◌then◌else◌, List, [], ◌∷◌, Option, Some, None}
use Rattle.std.specs.Ordering.{eq_by_cmp}
use Rattle.packed_names.specs.declared.half_month.HalfMonth.{HalfMonth}
use Rattle.packed_names.specs.declared.name.Designation.{Designation}
use Rattle.packed_names.specs.Order.{half_cmp, designation_cmp}
use Rattle.comet_names.specs.declared.comet.Comet.{Comet}
use Rattle.comet_model.specs.declared.named.NamedComet.{NamedComet}
use Rattle.comet_model.specs.declared.naming.Naming.{Naming}

-- how many comets a half-month has, C and P together
abbrev pub count_in : HalfMonth → List NamedComet → ℕ
count_in half [] = 0
count_in half (named ∷ past) =
    if eq_by_cmp half_cmp named.comet.half half then count_in half past + 1 else count_in half past

-- the name of a comet that a designation has
abbrev pub comet_of : Designation → List NamedComet → Option Comet
comet_of d [] = None
comet_of d (named ∷ past) = if eq_by_cmp designation_cmp named.object d then Some named.comet else comet_of d past

-- The object of a naming that was discovered in this half-month gets the next name of it: the number is one more than
-- the count.
abbrev pub next_named : Naming → HalfMonth → List NamedComet → NamedComet
next_named naming half past =
    record {
      object = naming.object;
      comet = record { kind = naming.kind; half = half; number = count_in half past + 1 };
    }
