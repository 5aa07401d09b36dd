-- The designations with a good verdict and no number, after an act.
use Rattle.std.proofs.Common.{◌≡◌, Bool, true, false, cond, List, ◌∷◌, Option, Some, None, refl, ap, sym, ◌∙◌}
use Rattle.std.specs.Prelude.{◌&&◌, is_none, is_some}
use Rattle.std.specs.Ordering.{eq_by_cmp, is_eq}
use Rattle.std.specs.declared.cmp.Ordering.{Ordering}
use Rattle.packed_names.specs.declared.name.Designation.{Designation}
use Rattle.packed_names.specs.contracts.name.DesignationOrd.TheImpl as derived
use Rattle.packed_names.specs.Order.{designation_cmp}
use Rattle.packed_names.specs.Laws.{OrderLaws}
use Rattle.ordered_list.specs.Orders.{found}
use Rattle.numbering_core.specs.declared.verdict.Verdict.{Verdict}
use Rattle.numbering_core.specs.declared.numbering.Numbering.{Numbering}
use Rattle.numbering_core.specs.Numbers.{number_of}
use Rattle.numbering_core.specs.Verdicts.{is_good}
use Rattle.numbering_core.specs.Open.{AreOpen, FindsBeside}

-- what is found beside a designation, where the order of designations tells which is the same
found_beside : OrderLaws → (d key : Designation) (is_there : Bool) (old new : List Designation) → FindsBeside (derived.ghosts).cmp d is_there old new
    → is_some (found (derived.ghosts).cmp key new) ≡ cond (eq_by_cmp designation_cmp d key) is_there (is_some (found (derived.ghosts).cmp key old))
found_beside orders d key is_there old new finds =
    finds key ∙ ap (λ (o : Ordering). cond (is_eq o) is_there (is_some (found (derived.ghosts).cmp key old))) (orders.compared d key)

-- the verdict on one designation changed
pub verdict_changed : OrderLaws → (numbered : List Numbering) (before after : Designation → Option Verdict) (old new : List Designation)
    → (p : Designation) (verdict : Option Verdict) (is_there : Bool) → is_there ≡ (is_none (number_of numbered p) && is_good verdict)
    → FindsBeside (derived.ghosts).cmp p is_there old new
    → ((d : Designation) → after d ≡ cond (eq_by_cmp designation_cmp p d) verdict (before d))
    → AreOpen (derived.ghosts).cmp before numbered old → AreOpen (derived.ghosts).cmp after numbered new
verdict_changed orders numbered before after old new p verdict is_there is finds changed are d =
    found_beside orders p d is_there old new finds
    ∙ by (eq_by_cmp designation_cmp p d) refl
    ∙ sym (ap (λ (v : Option Verdict). is_none (number_of numbered d) && is_good v) (changed d))
  where
    by : (b : Bool) → eq_by_cmp designation_cmp p d ≡ b
        → cond b is_there (is_some (found (derived.ghosts).cmp d old)) ≡ (is_none (number_of numbered d) && is_good (cond b verdict (before d)))
    by true same = is ∙ ap (λ (e : Designation). is_none (number_of numbered e) && is_good verdict) ((orders.designations p d).0 same)
    by false apart = are d

-- no verdict is none that is good
pub none_open : (numbered : List Numbering) (p : Designation) → false ≡ (is_none (number_of numbered p) && is_good None)
none_open numbered p = by (is_none (number_of numbered p))
  where
    by : (b : Bool) → false ≡ (b && false)
    by true = refl
    by false = refl

-- one designation got a number
pub number_given : OrderLaws → (verdict : Designation → Option Verdict) (newest : Numbering) (numbered : List Numbering) (old new : List Designation)
    → FindsBeside (derived.ghosts).cmp newest.designation false old new
    → AreOpen (derived.ghosts).cmp verdict numbered old → AreOpen (derived.ghosts).cmp verdict (newest ∷ numbered) new
number_given orders verdict newest numbered old new finds are d =
    found_beside orders newest.designation d false old new finds ∙ by (eq_by_cmp designation_cmp newest.designation d)
  where
    by : (b : Bool) → cond b false (is_some (found (derived.ghosts).cmp d old)) ≡ (is_none (cond b (Some newest.number) (number_of numbered d)) && is_good (verdict d))
    by true = refl
    by false = are d
