-- The index of numbers, after one more was given.
use Rattle.std.proofs.Common.{◌≡◌, Bool, true, false, cond, List, ◌∷◌, Option, Some, refl, ap, ◌∙◌}
use Rattle.std.specs.Prelude.{if◌then◌else◌}
use Rattle.std.specs.Ordering.{eq_by_cmp, is_eq}
use Rattle.std.specs.declared.cmp.Ordering.{Ordering}
use Rattle.packed_names.specs.declared.number.Number.{Number}
use Rattle.packed_names.specs.Order.{designation_cmp}
use Rattle.packed_names.specs.Laws.{OrderLaws}
use Rattle.ordered_list.specs.Orders.{ties, found}
use Rattle.numbering_core.specs.declared.numbering.Numbering.{Numbering}
use Rattle.numbering_core.specs.declared.entry.NumberEntry.{NumberEntry}
use Rattle.numbering_core.specs.Indexes.{number_by, entry_key, AreIndexed}
use Rattle.numbering_core.specs.contracts.entry.NumberEntryOrd.TheImpl as derived

number_by_either : (b : Bool) (x y : Option NumberEntry) → number_by (cond b x y) ≡ cond b (number_by x) (number_by y)
number_by_either true x y = refl
number_by_either false x y = refl

-- the entry of a number that was given
abbrev entry_of : Numbering → NumberEntry
entry_of n = record { designation = n.designation; number = n.number }

pub one_more : OrderLaws → (newest : Numbering) (numbered : List Numbering) (old new : List NumberEntry)
    → ((key : NumberEntry) → found (derived.ghosts).cmp key new
    ≡ (if ties (derived.ghosts).cmp key (entry_of newest) then Some (entry_of newest) else found (derived.ghosts).cmp key old))
    → AreIndexed (derived.ghosts).cmp old numbered → AreIndexed (derived.ghosts).cmp new (newest ∷ numbered)
one_more orders newest numbered old new finds are d =
    ap number_by (finds (entry_key d))
    ∙ number_by_either (ties (derived.ghosts).cmp (entry_key d) (entry_of newest)) (Some (entry_of newest)) (found (derived.ghosts).cmp (entry_key d) old)
    ∙ ap (λ (o : Ordering). cond (is_eq o) (Some newest.number) (number_by (found (derived.ghosts).cmp (entry_key d) old))) (orders.compared newest.designation d)
    ∙ ap (λ (n : Option Number). cond (eq_by_cmp designation_cmp newest.designation d) (Some newest.number) n) (are d)
