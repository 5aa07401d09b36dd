-- Verdicts on orbits, from where they are set to where they are voided. Lists of acts have the newest first.
use Rattle.std.specs.Prelude.{◌≡◌, ℕ, Bool, false, nat_le, ◌&&◌, if◌then◌else◌, List, [], ◌∷◌, Option, Some, None}
use Rattle.std.specs.Ordering.{eq_by_cmp}
use Rattle.packed_names.specs.declared.name.Designation.{Designation}
use Rattle.packed_names.specs.Order.{designation_cmp}
use Rattle.numbering_core.specs.declared.verdict.Verdict.{Verdict}

-- A verdict is set: the principal designation, U and the oppositions. The verdict on a designation is voided.
pub data VerdictAct : Type 0 where
  Set : Designation → ℕ → ℕ → VerdictAct
  Voided : Designation → VerdictAct

-- the verdict on d that is in force after an act, from what was in force before it
abbrev pub verdict_after : VerdictAct → Designation → Option Verdict → Option Verdict
verdict_after (Set p u oppositions) d before =
    if eq_by_cmp designation_cmp p d then Some (record { principal = p; u = u; oppositions = oppositions }) else before
verdict_after (Voided p) d before = if eq_by_cmp designation_cmp p d then None else before

-- the verdict on d that is in force
abbrev pub verdict_in_force : List VerdictAct → Designation → Option Verdict
verdict_in_force [] d = None
verdict_in_force (act ∷ past) d = verdict_after act d (verdict_in_force past d)

-- a verdict is there, and is good: U is at most 2, and the oppositions are at least 4
abbrev pub is_good : Option Verdict → Bool
is_good None = false
is_good (Some verdict) = nat_le verdict.u 2 && nat_le 4 verdict.oppositions

-- the verdict on d among others
abbrev pub verdict_of : List Verdict → Designation → Option Verdict
verdict_of [] d = None
verdict_of (verdict ∷ verdicts) d =
    if eq_by_cmp designation_cmp verdict.principal d then Some verdict else verdict_of verdicts d

-- on each designation that verdict is in force which an act leaves, from what was in force before
abbrev pub ChangedBy : VerdictAct → List Verdict → List Verdict → Type 0
ChangedBy act old new = (d : Designation) → verdict_of new d ≡ verdict_after act d (verdict_of old d)

-- the verdicts stand for acts, the newest first: on each designation the same one is in force by both
abbrev pub StandFor : List Verdict → List VerdictAct → Type 0
StandFor verdicts acts = (d : Designation) → verdict_of verdicts d ≡ verdict_in_force acts d
