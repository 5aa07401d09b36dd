-- What is kept of what came to the rows, the newest first, and what its indexes find.
use Rattle.std.proofs.Common.{◌≡◌, ℕ, ◌++◌, Bool, true, false, cond, List, [], ◌∷◌, map, reverse, Some, IsSome, refl, ap, sym, subst, ◌∙◌}
use Rattle.std.proofs.lemmas.List.{reverse-append}
use Rattle.std.specs.Ordering.{eq_by_cmp}
use Rattle.std.specs.declared.cmp.Ordering.{Ordering}
use Rattle.ordered_list.specs.Orders.{found}
use Rattle.packed_names.specs.declared.half_month.HalfMonth.{HalfMonth}
use Rattle.std.proofs.lemmas.Bool.{false≢true}
use Rattle.packed_names.specs.declared.name.Designation.{Designation}
use Rattle.packed_names.specs.declared.name.Designation.TheVariants as designations
use Rattle.packed_names.specs.Order.{half_cmp, designation_cmp}
use Rattle.packed_names.specs.Laws.{OrderLaws}
use Rattle.packed_names.specs.Ranges.{IsProvisional, IsDesignation}
use Rattle.designate_core.specs.declared.count.Count.{Count}
use Rattle.designate_core.specs.declared.discovery.Discovery.{Discovery}
use Rattle.designate_core.specs.declared.row_entry.RowEntry.{RowEntry}
use Rattle.designate_core.specs.declared.row_entry.RowEntry.TheVariants as entry
use Rattle.designate_core.specs.Takes.{given_in, next_in, discovery_of}
use Rattle.designate_core.specs.Takes.RowAct.{Opened}
use Rattle.designate_core.specs.RowEntries.{act_of, AreNamed}
use Rattle.designate_core.specs.Indexes.{count_of, given_by, IsKept}
use Rattle.designate_core.specs.Unbroken.{FitsRows}
use Rattle.designate_core.proofs.RowLemmas.{given_in-opened}

pub newest_first : {A : Type 0} (items : List A) (item : A) → reverse (items ++ item ∷ []) ≡ item ∷ reverse items
newest_first items item = reverse-append items (item ∷ [])

module _ (orders : OrderLaws) where
  -- what was taken is a designation
  pub taken_named : (d : Designation) (came : List RowEntry) → AreNamed came → IsSome (discovery_of d (map act_of came)) → IsDesignation d
  taken_named d [] named some = absurd (false≢true some)
  taken_named d (entry.Opened half given ∷ older) named some = taken_named d older named.1 some
  taken_named d (entry.Took given discovery ∷ older) named some = by (eq_by_cmp designation_cmp d newest) refl (taken_named d older named.1)
    where
      newest : Designation
      newest = designations.Provisional (next_in given.half (map act_of older))

      by : (b : Bool) → eq_by_cmp designation_cmp d newest ≡ b → (IsSome (discovery_of d (map act_of older)) → IsDesignation d) → IsDesignation d
      by true same rest = subst IsDesignation (sym ((orders.designations d newest).0 same)) (subst IsProvisional named.0.0 named.0.1)
      by false apart rest = rest (subst IsSome (ap (λ (b : Bool). cond b (Some discovery) (discovery_of d (map act_of older))) apart) some)

  -- an opening is kept by its count, which each search of its half-month finds from then on
  pub opened_kept : {count_cmp : Count → Count → Ordering} {discovery_cmp : Discovery → Discovery → Ordering}
      (came longer : List RowEntry) (counts more : List Count) (discoveries : List Discovery) (half : HalfMonth) (given : ℕ)
      → longer ≡ entry.Opened half given ∷ came
      → IsKept count_cmp discovery_cmp came counts discoveries
      → FitsRows (map act_of came) (Opened half given)
      → ((asked : HalfMonth) → found count_cmp (count_of asked 0) more ≡ cond (eq_by_cmp half_cmp half asked) (Some (count_of half given)) (found count_cmp (count_of asked 0) counts))
      → IsKept count_cmp discovery_cmp longer more discoveries
  opened_kept {count_cmp = count_cmp} {discovery_cmp = discovery_cmp} came longer counts more discoveries half given pushed kept fits finds =
      subst (λ (all : List RowEntry). IsKept count_cmp discovery_cmp all more discoveries) (sym pushed)
      (record {
        fitting = (fits, kept.fitting);
        named = (tt, kept.named);
        counted = λ asked. ap given_by (finds asked) ∙ by asked (eq_by_cmp half_cmp half asked) ∙ sym (given_in-opened orders asked half given (map act_of came) fits);
        indexed = kept.indexed;
      })
    where
      by : (asked : HalfMonth) (b : Bool) → given_by (cond b (Some (count_of half given)) (found count_cmp (count_of asked 0) counts)) ≡ cond b given (given_in asked (map act_of came))
      by asked true = refl
      by asked false = kept.counted asked
