-- What a group's lines in the order of time say is what the rules say of the batch in its own order.
use Rattle.std.proofs.Common.{◌≡◌, ℕ, ℤ, pos, ◌+ℤ◌, ◌≤ℤ◌, Bool, true, false, not, ◌&&◌, cond, List, [], ◌∷◌, length, filter, Some, None, refl, ap, sym, subst, ◌∙◌, true≢false, arith}
use Rattle.std.specs.Prelude.{nat_lt, int_lt}
use Rattle.std.specs.List.{list_any}
use Rattle.std.specs.List.Sorted.{IsPermutation}
use Rattle.std.specs.Ordering.{int_eq}
use Rattle.std.proofs.lemmas.Int.{ints}
use Rattle.std.proofs.lemmas.Bool.Decides.{Decides-int_eq}
use Rattle.std.proofs.Math.Bool.{and-true}
use Rattle.std.proofs.lemmas.List.{nil_from_length}
use Rattle.std.proofs.lemmas.List.Sums.{sum_by-cons}
use Rattle.std.proofs.lemmas.List.Sorted.{list_any-IsPermutation}
use Rattle.obs_time.specs.Instants.{nanos_of_a_day}
use Rattle.obs_record.specs.declared.sighting.Sighting.{Sighting}
use Rattle.obs_record.specs.declared.rule.RuleCode.TheVariants.{B6, B7, B8}
use Rattle.act_model.specs.BatchRules.{name_of}
use Rattle.act_model.specs.Rows.{first_row}
use Rattle.act_model.specs.BatchRules.{same_group, is_sub, is_late, is_late_after, left_with, has_fast_pair, group_fault}
use Rattle.batch_rules.specs.contracts.keys.GroupKeyEq.TheImpl.Laws.{laws-law}
use Rattle.batch_rules.specs.declared.groups.Summary.{Summary}
use Rattle.batch_rules.specs.Groups.{group_key, with_later, summary, fault_by, AreApart}
use Rattle.batch_rules.proofs.Any.{IsIn, Each, each_in, any_same, counts_fewer}
use Rattle.batch_rules.proofs.Fast.{any_fast, neighbours_or_any, both_pass}
use Rattle.batch_rules.proofs.KeyLemmas.{same_keys}
use Rattle.batch_rules.proofs.Lists.{each_at, in_filter, each_always, filter_same, filter_twice, any_filter, length-filter_moved, any_fast_moved, IsDescending}
use Rattle.batch_rules.proofs.Summaries.{Says, says_all}

-- ---- groups

pub same_itself : (a : Sighting) → same_group a a ≡ true
same_itself a = sym (same_keys a a) ∙ laws-law.refl (group_key a)

pub same_turned : (a b : Sighting) → same_group a b ≡ same_group b a
same_turned a b = sym (same_keys a b) ∙ laws-law.symm (group_key a) (group_key b) ∙ same_keys b a

pub same_with : (a b c : Sighting) → same_group a b ≡ true → same_group a c ≡ same_group b c
same_with a b c same = sym (same_keys a c) ∙ laws-law.congr (group_key a) (group_key b) (group_key c) (same_keys a b ∙ same) ∙ same_keys b c

-- ---- the rules of a group

module _ (passed turned : List Sighting) (moved : IsPermutation passed turned) (s : Sighting) where
  -- the group in the other order
  abbrev pub members : List Sighting
  members = filter (same_group s) turned

  late_among : (other : Sighting) → same_group s other ≡ true → is_late passed other ≡ list_any (λ e. int_lt (e.time +ℤ pos nanos_of_a_day) other.time) members
  late_among other same =
      list_any-IsPermutation (λ e. same_group e other && is_late_after e other) passed turned moved
      ∙ any_same (λ e. same_group e other && is_late_after e other) (λ e. same_group s e && is_late_after e other) turned
      (each_always _ turned (λ e. ap (λ (b : Bool). b && is_late_after e other) (same_turned e other ∙ sym (same_with s other e same))))
      ∙ sym (any_filter (same_group s) (λ e. is_late_after e other) turned)

  -- those of the group that B7 leaves, by a time
  in_day : ℤ → Sighting → Bool
  in_day first other = same_group s other && not (int_lt (first +ℤ pos nanos_of_a_day) other.time)

  left_is : (first : ℤ) → ((t : ℤ) → list_any (λ e. int_lt (e.time +ℤ pos nanos_of_a_day) t) members ≡ int_lt (first +ℤ pos nanos_of_a_day) t)
      → (other : Sighting) → same_group other s && not (is_late passed other) ≡ in_day first other
  unfolding in_day
  left_is first starts other = by (same_group s other) refl
    where
      by : (b : Bool) → same_group s other ≡ b → same_group other s && not (is_late passed other) ≡ same_group s other && not (int_lt (first +ℤ pos nanos_of_a_day) other.time)
      by true same = ap (λ (b : Bool). b && not (is_late passed other)) (same_turned other s) ∙ ap (λ (b : Bool). same_group s other && not b) (late_among other same ∙ starts other.time)
      by false differs =
          ap (λ (b : Bool). b && not (is_late passed other)) (same_turned other s ∙ differs)
          ∙ sym (ap (λ (b : Bool). b && not (int_lt (first +ℤ pos nanos_of_a_day) other.time)) differs)

  module _ (told : Summary) (said : Says members told) where
    left_list : left_with passed s ≡ filter (in_day told.first) passed
    left_list = filter_same (λ other. same_group other s && not (is_late passed other)) (in_day told.first) passed (left_is told.first said.starts)

    left_turned : filter (in_day told.first) turned ≡ said.newest ∷ said.others
    unfolding in_day
    left_turned = sym (filter_twice (same_group s) (λ e. not (int_lt (told.first +ℤ pos nanos_of_a_day) e.time)) turned) ∙ said.split

    late_told : is_late passed s ≡ int_lt (told.first +ℤ pos nanos_of_a_day) s.time
    late_told = late_among s (same_itself s) ∙ said.starts s.time

    fast_told : has_fast_pair (left_with passed s) ≡ told.fast
    fast_told =
        neighbours_or_any (left_with passed s) ∙ ap any_fast left_list ∙ any_fast_moved (in_day told.first) passed turned moved ∙ ap any_fast left_turned ∙ sym said.fast_is

    alone_told : nat_lt (length (left_with passed s)) 2 ≡ told.alone
    alone_told =
        ap (λ (xs : List Sighting). nat_lt (length xs) 2) left_list ∙ ap (λ (n : ℕ). nat_lt n 2) (length-filter_moved (in_day told.first) passed turned moved)
        ∙ ap (λ (xs : List Sighting). nat_lt (length xs) 2) left_turned ∙ sym said.alone_is

    pub some_told : fault_by (Some told) s ≡ group_fault passed s
    unfolding group_fault
    some_told =
        ap (λ (b : Bool). first_row ((b, B7) ∷ (told.fast, B8) ∷ (is_sub (name_of s) && told.alone, B6) ∷ [])) (sym late_told)
        ∙ ap (λ (b : Bool). first_row ((is_late passed s, B7) ∷ (b, B8) ∷ (is_sub (name_of s) && told.alone, B6) ∷ [])) (sym fast_told)
        ∙ ap (λ (b : Bool). first_row ((is_late passed s, B7) ∷ (has_fast_pair (left_with passed s), B8) ∷ (is_sub (name_of s) && b, B6) ∷ [])) (sym alone_told)

  nothing_left : members ≡ [] → fault_by None s ≡ group_fault passed s
  unfolding group_fault
  nothing_left none =
      ap (λ (b : Bool). first_row ((b, B6) ∷ [])) (sym (and-true (is_sub (name_of s))))
      ∙ ap (λ (b : Bool). first_row ((b, B7) ∷ (false, B8) ∷ (is_sub (name_of s) && true, B6) ∷ [])) (sym early)
      ∙ ap (λ (xs : List Sighting). first_row ((is_late passed s, B7) ∷ (has_fast_pair xs, B8) ∷ (is_sub (name_of s) && nat_lt (length xs) 2, B6) ∷ [])) (sym empty)
    where
      early : is_late passed s ≡ false
      early = late_among s (same_itself s) ∙ ap (list_any (λ e. int_lt (e.time +ℤ pos nanos_of_a_day) s.time)) none

      empty : left_with passed s ≡ []
      empty =
          filter_same (λ other. same_group other s && not (is_late passed other)) (λ other. same_group s other && not (is_late passed other)) passed (λ other. ap (λ (b : Bool). b && not (is_late passed other)) (same_turned other s))
          ∙ sym (filter_twice (same_group s) (λ other. not (is_late passed other)) passed)
          ∙ ap (filter (λ other. not (is_late passed other))) (nil_from_length (filter (same_group s) passed) (length-filter_moved (same_group s) passed turned moved ∙ ap length none))

  -- the rule that an observation breaks with its group
  pub fault_told : IsDescending members → fault_by (summary members) s ≡ group_fault passed s
  fault_told falls = by members refl falls
    where
      by : (xs : List Sighting) → members ≡ xs → IsDescending xs → fault_by (summary xs) s ≡ group_fault passed s
      by [] none falls = nothing_left none
      by (x ∷ xs) some falls = some_told (with_later (summary xs) x.time x.dec) (subst (λ (ys : List Sighting). Says ys (with_later (summary xs) x.time x.dec)) (sym some) (says_all x xs falls))

-- ---- the order of time

-- no one is later than those before it in the list
abbrev pub IsFalling : List Sighting → Type 0
IsFalling [] = Unit {0}
IsFalling (s ∷ earlier) = Each (λ e. e.time ≤ℤ s.time) earlier × IsFalling earlier

pub descending_members : (s : Sighting) (turned : List Sighting) → IsFalling turned → AreApart turned → IsDescending (filter (same_group s) turned)
descending_members s [] falls apart = tt
descending_members s (x ∷ earlier) falls apart = by (same_group s x) refl (descending_members s earlier falls.1 less_apart)
  where
    less_apart : AreApart earlier
    less_apart other = omega (arith, apart other, sum_by-cons (λ (e : Sighting). cond (same_group other e && int_eq e.time other.time) 1 0) x earlier)

    before : same_group s x ≡ true → (e : Sighting) → IsIn (filter (same_group s) earlier) e → int_lt e.time x.time ≡ true
    before same e there = pick (int_lt e.time x.time) refl
      where
        inside : IsIn earlier e × (same_group s e ≡ true)
        inside = in_filter (same_group s) earlier e there

        low : e.time ≤ℤ x.time
        low = each_at (λ e. e.time ≤ℤ x.time) earlier e falls.0 inside.0 (λ y z is low. subst (λ (w : Sighting). w.time ≤ℤ x.time) is low)

        pick : (b : Bool) → int_lt e.time x.time ≡ b → b ≡ true
        pick true is = refl
        pick false is =
            let not_later : e.time ≤ℤ x.time = low in
            let both : e.time ≡ x.time = omega (arith, ints) in
            let together : same_group x e && int_eq e.time x.time ≡ true =
            both_pass (same_group x e) (int_eq e.time x.time) (sym (same_with s x e same) ∙ inside.1) ((Decides-int_eq e.time x.time).1 both) in
            let itself : ◌≡◌ {A = ℕ} (cond (same_group x x && int_eq x.time x.time) 1 0) 1 =
            ap (λ (b : Bool). cond b 1 0) (both_pass (same_group x x) (int_eq x.time x.time) (same_itself x) ((Decides-int_eq x.time x.time).1 refl)) in
            let some = counts_fewer (λ (o : Sighting). false) (λ o. same_group x o && int_eq o.time x.time) earlier e inside.0 refl together (λ y h. absurd (true≢false (sym h))) in
            absurd (omega (arith, apart x, some, itself, sum_by-cons (λ (o : Sighting). cond (same_group x o && int_eq o.time x.time) 1 0) x earlier))

    by : (b : Bool) → same_group s x ≡ b → IsDescending (filter (same_group s) earlier) → IsDescending (cond b (x ∷ filter (same_group s) earlier) (filter (same_group s) earlier))
    by true same rest = (each_in (λ e. int_lt e.time x.time ≡ true) (filter (same_group s) earlier) (before same), rest)
    by false differs rest = rest
