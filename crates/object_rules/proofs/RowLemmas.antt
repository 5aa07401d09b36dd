-- Tables of conditions, one after the other.
use Rattle.std.proofs.Common.{◌≡◌, ℕ, Bool, true, false, cond, List, [], ◌∷◌, ◌++◌, map, Option, Some, None, Result, Ok, Err, ◌⊎◌, inl, inr, refl, sym, ap, subst, ◌∙◌}
use Rattle.std.specs.Prelude.{flat_map, IfSome}
use Rattle.designate_core.specs.Takes.{RowAct}
use Rattle.act_model.specs.declared.deed.Deed.{Deed}
use Rattle.act_model.specs.declared.reply.Refusal.{Refusal}
use Rattle.act_model.specs.declared.reply.Refusal.TheVariants.{NoMemory}
use Rattle.act_model.specs.declared.seen.Seen.{Seen}
use Rattle.act_model.specs.Rows.{first_row, unless, IsDue}
use Rattle.act_model.specs.Holdings.{Holdings}
use Rattle.act_model.specs.Discoveries.{seen_in}
use Rattle.act_model.specs.Doing.{tracklet_row, free_rows, designates, designates_seen}

-- the first of two tables decides, and else the second
pub rows_none : {A : Type 0} (one other : List (Bool × A)) → first_row one ≡ None → first_row (one ++ other) ≡ first_row other
rows_none [] other none = refl
rows_none (row ∷ rows) other none = by (rows_none rows other) row.0 none
  where
    by : (first_row rows ≡ None → first_row (rows ++ other) ≡ first_row other) → (b : Bool) → cond b (Some row.1) (first_row rows) ≡ None → cond b (Some row.1) (first_row (rows ++ other)) ≡ first_row other
    by rest true none = absurd cc
    by rest false none = rest none

pub rows_some : {A : Type 0} (one other : List (Bool × A)) (found : A) → first_row one ≡ Some found → first_row (one ++ other) ≡ Some found
rows_some [] other found is = absurd cc
rows_some (row ∷ rows) other found is = by (rows_some rows other found) row.0 is
  where
    by : (first_row rows ≡ Some found → first_row (rows ++ other) ≡ Some found) → (b : Bool) → cond b (Some row.1) (first_row rows) ≡ Some found → cond b (Some row.1) (first_row (rows ++ other)) ≡ Some found
    by rest true is = is
    by rest false is = rest is

-- what is exactly the answer is due
pub due_is : {A : Type 0} (due result : Result A Refusal) → result ≡ due → IsDue due result
due_is due (Ok found) is = sym is
due_is due (Err refusal) is = inl (sym is)

-- a refusal of a table is the answer, and where the table has none nothing is asked of the answer
pub refused_so : (A : Type 0) (row : Option Refusal) (refusal : Refusal) → row ≡ Some refusal → IfSome row (λ (r : Refusal). ◌≡◌ {A = Result A Refusal} (Err refusal) (Err r))
refused_so A None refusal is = tt
refused_so A (Some r) refusal is = let e : r ≡ refusal = cc in ap Err (sym e)

pub none_so : {A : Type 0} (row : Option Refusal) (result : Result A Refusal) → row ≡ None → IfSome row (λ (r : Refusal). result ≡ Err r)
none_so None result is = tt
none_so (Some r) result is = absurd cc

-- ---- what is due to tracklets that are to become an object

nothing_refused : {A : Type 0} (o : Option Refusal) (a b : A) → unless o (Ok a) ≡ Ok b → (o ≡ None) × (a ≡ b)
nothing_refused None a b is = (refl, cc)
nothing_refused (Some r) a b is = absurd cc

is_refused : {A : Type 0} (o : Option Refusal) (a : A) (r : Refusal) → unless o (Ok a) ≡ Err r → o ≡ Some r
is_refused None a r is = absurd cc
is_refused (Some refusal) a r is = cc

module _ (held : Holdings) (rows : List RowAct) (ts : List ℕ) where
  abbrev there : Option Refusal
  there = first_row (map (tracklet_row held.tracklets) ts)

  abbrev free : Option Refusal
  free = first_row (flat_map (free_rows held) ts)

  pub unknown_due : (r : Refusal) → there ≡ Some r → designates held rows ts ≡ Err r
  unknown_due r is =
      ap (λ (o : Option Refusal). unless o (designates_seen rows ts (seen_in held.observations ts)))
      (rows_some (map (tracklet_row held.tracklets) ts) (flat_map (free_rows held) ts) r is)

  all_there : there ≡ None → designates held rows ts ≡ unless free (designates_seen rows ts (seen_in held.observations ts))
  all_there none =
      ap (λ (o : Option Refusal). unless o (designates_seen rows ts (seen_in held.observations ts)))
      (rows_none (map (tracklet_row held.tracklets) ts) (flat_map (free_rows held) ts) none)

  pub seen_due : (seen : List Seen) (result : Result Deed Refusal) → there ≡ None → unless free (Ok (seen_in held.observations ts)) ≡ Ok seen
      → IsDue (designates_seen rows ts seen) result → IsDue (designates held rows ts) result
  seen_due seen result none is due =
      let both = nothing_refused free (seen_in held.observations ts) seen is in
      subst (λ (d : Result Deed Refusal). IsDue d result)
      (ap (designates_seen rows ts) (sym both.1) ∙ sym (all_there none ∙ ap (λ (o : Option Refusal). unless o (designates_seen rows ts (seen_in held.observations ts))) both.0)) due

  refused_due : (r : Refusal) → there ≡ None → unless free (Ok (seen_in held.observations ts)) ≡ Err r → designates held rows ts ≡ Err r
  refused_due r none is =
      all_there none ∙ ap (λ (o : Option Refusal). unless o (designates_seen rows ts (seen_in held.observations ts))) (is_refused free (seen_in held.observations ts) r is)

  pub refused_either : (r : Refusal) → there ≡ None → (unless free (Ok (seen_in held.observations ts)) ≡ Err r) ⊎ (r ≡ NoMemory) → (designates held rows ts ≡ Err r) ⊎ (r ≡ NoMemory)
  refused_either r none (inl is) = inl (refused_due r none is)
  refused_either r none (inr is) = inr is
