-- The index of designations.
use Rattle.std.proofs.Common.{◌≡◌, Bool, true, false, cond, List, Option, Some, refl, ap, sym, ◌∙◌}
use Rattle.std.specs.Prelude.{if◌then◌else◌}
use Rattle.std.specs.Ordering.{eq_by_cmp, is_eq}
use Rattle.packed_names.specs.declared.name.Designation.{Designation}
use Rattle.packed_names.specs.Order.{designation_cmp}
use Rattle.ordered_list.specs.Orders.{ties, found}
use Rattle.identify_core.specs.declared.link.Link.{Link}
use Rattle.identify_core.specs.declared.entry.PrincipalEntry.{PrincipalEntry}
use Rattle.identify_core.specs.Keeping.{entry_key, principal_by, AreIndexed, IsGiven}
use Rattle.identify_core.specs.contracts.entry.PrincipalEntryOrd.TheImpl as derived
use Rattle.identify_core.proofs.OrderLemmas.{designation_order}

-- the order of entries reads their designations alone
reads_designation : (d : Designation) (entry : PrincipalEntry) → ties (derived.ghosts).cmp (entry_key d) entry ≡ eq_by_cmp designation_cmp entry.designation d
reads_designation d entry = ap is_eq (designation_order entry.designation d)

-- the principal that the one entry or the other gives
principal_by_either : (b : Bool) (x y : Option PrincipalEntry) → principal_by (cond b x y) ≡ cond b (principal_by x) (principal_by y)
principal_by_either true x y = refl
principal_by_either false x y = refl

-- an index into which an entry was put is that of links in which its designation has its principal
pub indexed_given : (old new : List PrincipalEntry) (entry : PrincipalEntry) (before after : List Link)
    → ((key : PrincipalEntry) → found (derived.ghosts).cmp key new ≡ (if ties (derived.ghosts).cmp key entry then Some entry else found (derived.ghosts).cmp key old))
    → AreIndexed (derived.ghosts).cmp old before → IsGiven entry.designation entry.principal before after → AreIndexed (derived.ghosts).cmp new after
indexed_given old new entry before after finds indexed given d =
    ap principal_by (finds (entry_key d))
    ∙ principal_by_either (ties (derived.ghosts).cmp (entry_key d) entry) (Some entry) (found (derived.ghosts).cmp (entry_key d) old)
    ∙ ap (λ (b : Bool). cond b (Some entry.principal) (principal_by (found (derived.ghosts).cmp (entry_key d) old))) (reads_designation d entry)
    ∙ ap (λ (o : Option Designation). cond (eq_by_cmp designation_cmp entry.designation d) (Some entry.principal) o) (indexed d)
    ∙ sym (given d)
