-- Numbers that are given go on from those that were given, each to a designation without one.
use Rattle.std.proofs.Common.{◌≡◌, ℕ, zero, suc, ◌+◌, ◌≤◌, List, [], ◌∷◌, ◌++◌, length, reverse, take, filter, Bool, true, false, cond, Option, Some, None, IfSome, refl, sym, ap, subst, ◌∙◌, append_assoc, arith}
use Rattle.std.specs.Prelude.{is_none, ◌==◌, nat_lt}
use Rattle.std.specs.Ordering.{is_eq}
use Rattle.std.proofs.lemmas.Bool.{and_parts}
use Rattle.std.proofs.lemmas.List.{reverse-append}
use Rattle.std.proofs.lemmas.Bool.Decides.{nat_tests}
use Rattle.packed_names.specs.declared.name.Designation.{Designation}
use Rattle.packed_names.specs.declared.number.Number.{Number}
use Rattle.packed_names.specs.declared.number.TheConstants.{GREATEST_NUMBER}
use Rattle.packed_names.specs.Ranges.{IsNumber}
use Rattle.identify_core.specs.Acts.{LinkAct, given_in_order}
use Rattle.identify_core.specs.Principals.{IsBefore, IsAscending}
use Rattle.numbering_core.specs.declared.numbering.Numbering.{Numbering}
use Rattle.numbering_core.specs.Numbers.{number_of, next_number, IsUnbroken}
use Rattle.numbering_core.specs.Verdicts.{VerdictAct}
use Rattle.act_model.specs.declared.reply.Refusal.{Refusal}
use Rattle.act_model.specs.Rows.{first_row}
use Rattle.act_model.specs.Holdings.{Holdings}
use Rattle.act_model.specs.Designations.{is_principal, principals}
use Rattle.act_model.specs.Numbers.{is_eligible, eligible_objects, numbered_from, last_number}
use Rattle.act_model.specs.Doing.{next_rows, number_rows}
use Rattle.act_model.proofs.RowLemmas.{AreOff, rows_off, behind_off, not_off}

-- ---- designations without numbers

abbrev AreFree : List Numbering → List Designation → Type 0
AreFree numbered [] = Unit {0}
AreFree numbered (d ∷ ds) = (number_of numbered d ≡ None) × AreFree numbered ds

-- a number for another designation leaves them without
free_more : (d : Designation) (n : Number) (past : List Numbering) (ds : List Designation) → IsBefore d ds → AreFree past ds → AreFree (record { designation = d; number = n } ∷ past) ds
free_more d n past [] before free = tt
free_more d n past (e ∷ ds) before free =
    (ap (λ (b : Bool). cond b (Some n) (number_of past e)) (ap is_eq before.0) ∙ free.0, free_more d n past ds before.1 free.1)

-- ---- some of a list

before_filter : (f : Designation → Bool) (d : Designation) (ds : List Designation) → IsBefore d ds → IsBefore d (filter f ds)
before_filter f d [] before = tt
before_filter f d (x ∷ ds) before = by (f x) (before_filter f d ds before.1)
  where
    by : (b : Bool) → IsBefore d (filter f ds) → IsBefore d (cond b (x ∷ filter f ds) (filter f ds))
    by true rest = (before.0, rest)
    by false rest = rest

ascending_filter : (f : Designation → Bool) (ds : List Designation) → IsAscending ds → IsAscending (filter f ds)
ascending_filter f [] up = tt
ascending_filter f (x ∷ ds) up = by (f x) (ascending_filter f ds up.1)
  where
    by : (b : Bool) → IsAscending (filter f ds) → IsAscending (cond b (x ∷ filter f ds) (filter f ds))
    by true rest = (before_filter f x ds up.0, rest)
    by false rest = rest

before_take : (n : ℕ) (d : Designation) (ds : List Designation) → IsBefore d ds → IsBefore d (take n ds)
before_take zero d ds before = tt
before_take (suc n) d [] before = tt
before_take (suc n) d (x ∷ ds) before = (before.0, before_take n d ds before.1)

ascending_take : (n : ℕ) (ds : List Designation) → IsAscending ds → IsAscending (take n ds)
ascending_take zero ds up = tt
ascending_take (suc n) [] up = tt
ascending_take (suc n) (x ∷ ds) up = (before_take n x ds up.0, ascending_take n ds up.1)

free_take : (numbered : List Numbering) (n : ℕ) (ds : List Designation) → AreFree numbered ds → AreFree numbered (take n ds)
free_take numbered zero ds free = tt
free_take numbered (suc n) [] free = tt
free_take numbered (suc n) (x ∷ ds) free = (free.0, free_take numbered n ds free.1)

none_is : {A : Type 0} (o : Option A) → is_none o ≡ true → o ≡ None
none_is None is = refl
none_is (Some x) is = absurd cc

module _ (held : Holdings) (acts : List LinkAct) (verdicts : List VerdictAct) (numbered : List Numbering) where
  without_number : (d : Designation) → is_eligible held acts verdicts numbered d ≡ true → number_of numbered d ≡ None
  without_number d is = none_is (number_of numbered d) (and_parts (is_none (number_of numbered d)) _ is).0

  free_among : (ds : List Designation) → AreFree numbered (filter (is_eligible held acts verdicts numbered) ds)
  free_among [] = tt
  free_among (d ∷ ds) = by (is_eligible held acts verdicts numbered d) refl (free_among ds)
    where
      by : (b : Bool) → is_eligible held acts verdicts numbered d ≡ b → AreFree numbered (filter (is_eligible held acts verdicts numbered) ds)
          → AreFree numbered (cond b (d ∷ filter (is_eligible held acts verdicts numbered) ds) (filter (is_eligible held acts verdicts numbered) ds))
      by true is rest = (without_number d is, rest)
      by false is rest = rest

  eligible_ascend : IsAscending (given_in_order acts) → IsAscending (eligible_objects held acts verdicts numbered)
  eligible_ascend up = ascending_filter (is_eligible held acts verdicts numbered) (principals acts) (ascending_filter (is_principal acts) (given_in_order acts) up)

-- ---- numbers one after the other

row_more : (ds : List Designation) (first : ℕ) (past : List Numbering) → IsUnbroken past → IfSome (next_number past) (λ next. first ≡ next) → 1 ≤ first → first + length ds ≤ GREATEST_NUMBER + 1
    → IsAscending ds → AreFree past ds → IsUnbroken (reverse (numbered_from first ds) ++ past)
row_more [] first past unbroken next from to up free = unbroken
row_more (d ∷ ds) first past unbroken next from to up free =
    let newest : Numbering = record { designation = d; number = record { 0 = first } } in
    let others = numbered_from (first + 1) ds in
    subst IsUnbroken (sym (ap (λ (l : List Numbering). l ++ past) (reverse-append (newest ∷ []) others) ∙ append_assoc (reverse others) (newest ∷ []) past))
    (row_more ds (first + 1) (newest ∷ past) ((from, omega arith), next, free.0, unbroken) refl (omega arith) (omega arith) up.1 (free_more d newest.number past ds up.0 free.1))

-- ---- what refuses numbers

first_is_next : (next : Option ℕ) (first : ℕ) (others : List (Bool × Refusal)) → AreOff (next_rows next first ++ others) → IfSome next (λ n. first ≡ n)
first_is_next None first others off = tt
first_is_next (Some next) first others off = let is = not_off (first == next) off.0 in grind (arith, nat_tests)

not_full : (first : ℕ) (ds : List Designation) → nat_lt GREATEST_NUMBER (last_number first ds) ≡ false → first + length ds ≤ GREATEST_NUMBER + 1
not_full first ds off = grind (arith, nat_tests)

pub numbers_go_on : (held : Holdings) (acts : List LinkAct) (verdicts : List VerdictAct) (numbered : List Numbering) (first most : ℕ) → IsAscending (given_in_order acts) → IsUnbroken numbered → IsNumber first
    → first_row (number_rows numbered first most (eligible_objects held acts verdicts numbered)) ≡ None → IsUnbroken (reverse (numbered_from first (take most (eligible_objects held acts verdicts numbered))) ++ numbered)
numbers_go_on held acts verdicts numbered first most up unbroken is none =
    let objects = eligible_objects held acts verdicts numbered in
    let off = rows_off (number_rows numbered first most objects) none in
    let behind = behind_off (next_rows (next_number numbered) first) _ off in
    row_more (take most objects) first numbered unbroken (first_is_next (next_number numbered) first _ off) is.0 (not_full first (take most objects) behind.1.0)
    (ascending_take most objects (eligible_ascend held acts verdicts numbered up)) (free_take numbered most objects (free_among held acts verdicts numbered (principals acts)))
