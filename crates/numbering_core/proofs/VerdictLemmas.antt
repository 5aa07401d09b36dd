-- Verdicts that are found, set or voided.
use Rattle.std.proofs.Common.{◌≡◌, Bool, true, false, cond, List, [], ◌∷◌, Option, Some, None, refl, ap, sym, ◌∙◌}
use Rattle.std.specs.Prelude.{if◌then◌else◌}
use Rattle.std.specs.Ordering.{eq_by_cmp, is_eq}
use Rattle.packed_names.specs.declared.name.Designation.{Designation}
use Rattle.packed_names.specs.Order.{designation_cmp}
use Rattle.packed_names.specs.Laws.{OrderLaws}
use Rattle.ordered_list.specs.Orders.{ties, found}
use Rattle.numbering_core.specs.declared.verdict.Verdict.{Verdict}
use Rattle.numbering_core.specs.declared.entry.VerdictEntry.{VerdictEntry}
use Rattle.numbering_core.specs.Verdicts.{verdict_after, verdict_of}
use Rattle.numbering_core.specs.Verdicts.VerdictAct.{Set, Voided}
use Rattle.numbering_core.specs.Indexes.{verdict_in, verdict_by, verdicts_in, verdict_key}
use Rattle.numbering_core.specs.contracts.entry.VerdictEntryOrd.TheImpl as derived

-- the order of entries reads their designations alone
reads_principal : OrderLaws → (d : Designation) (v : VerdictEntry) → ties (derived.ghosts).cmp (verdict_key d) v ≡ eq_by_cmp designation_cmp v.principal d
reads_principal orders d v = ap is_eq (orders.compared v.principal d)

-- the verdict that the one entry or the other gives
verdict_by_either : (b : Bool) (x y : Option VerdictEntry) → verdict_by (cond b x y) ≡ cond b (verdict_by x) (verdict_by y)
verdict_by_either true x y = refl
verdict_by_either false x y = refl

module _ (orders : OrderLaws) where
  -- a search finds the verdict on the designation
  pub found_is : (d : Designation) (entries : List VerdictEntry) → verdict_by (found (derived.ghosts).cmp (verdict_key d) entries) ≡ verdict_of (verdicts_in entries) d
  found_is d [] = refl
  found_is d (v ∷ entries) =
      verdict_by_either (ties (derived.ghosts).cmp (verdict_key d) v) (Some v) (found (derived.ghosts).cmp (verdict_key d) entries)
      ∙ ap (λ (b : Bool). cond b (Some (verdict_in v)) (verdict_by (found (derived.ghosts).cmp (verdict_key d) entries))) (reads_principal orders d v)
      ∙ ap (λ (o : Option Verdict). cond (eq_by_cmp designation_cmp v.principal d) (Some (verdict_in v)) o) (found_is d entries)

  pub set_after : (old new : List VerdictEntry) (v : VerdictEntry)
      → ((key : VerdictEntry) → found (derived.ghosts).cmp key new ≡ (if ties (derived.ghosts).cmp key v then Some v else found (derived.ghosts).cmp key old))
      → (d : Designation) → verdict_of (verdicts_in new) d ≡ verdict_after (Set v.principal v.u v.oppositions) d (verdict_of (verdicts_in old) d)
  set_after old new v finds d =
      sym (found_is d new) ∙ ap verdict_by (finds (verdict_key d))
      ∙ verdict_by_either (ties (derived.ghosts).cmp (verdict_key d) v) (Some v) (found (derived.ghosts).cmp (verdict_key d) old)
      ∙ ap (λ (b : Bool). cond b (Some (verdict_in v)) (verdict_by (found (derived.ghosts).cmp (verdict_key d) old))) (reads_principal orders d v)
      ∙ ap (λ (o : Option Verdict). cond (eq_by_cmp designation_cmp v.principal d) (Some (verdict_in v)) o) (found_is d old)

  pub voided : (old new : List VerdictEntry) (p : Designation)
      → ((key : VerdictEntry) → found (derived.ghosts).cmp key new ≡ (if ties (derived.ghosts).cmp key (verdict_key p) then None else found (derived.ghosts).cmp key old))
      → (d : Designation) → verdict_of (verdicts_in new) d ≡ verdict_after (Voided p) d (verdict_of (verdicts_in old) d)
  voided old new p finds d =
      sym (found_is d new) ∙ ap verdict_by (finds (verdict_key d))
      ∙ verdict_by_either (ties (derived.ghosts).cmp (verdict_key d) (verdict_key p)) None (found (derived.ghosts).cmp (verdict_key d) old)
      ∙ ap (λ (b : Bool). cond b None (verdict_by (found (derived.ghosts).cmp (verdict_key d) old))) (reads_principal orders d (verdict_key p))
      ∙ ap (λ (o : Option Verdict). cond (eq_by_cmp designation_cmp p d) None o) (found_is d old)
