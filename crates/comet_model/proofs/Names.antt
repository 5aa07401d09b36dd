-- The names of a register, one after another.
use Rattle.std.proofs.Common.{◌≡◌, ℕ, suc, ◌+◌, ◌<◌, ◌≤◌, List, [], ◌∷◌, Bool, true, false, cond, Option, Some, None, Result, Ok, Err, refl, sym, ap, subst, ◌∙◌, arith, add-one, zero-add}
use Rattle.std.specs.Prelude.{◌↔◌, ◌++◌, nat_le}
use Rattle.std.specs.Ordering.{eq_by_cmp}
use Rattle.std.proofs.lemmas.Bool.Decides.{nat_tests}
use Rattle.packed_names.specs.declared.half_month.HalfMonth.{HalfMonth}
use Rattle.packed_names.specs.declared.name.Designation.{Designation}
use Rattle.packed_names.specs.Order.{half_cmp}
use Rattle.packed_names.specs.Ranges.{IsHalfMonth}
use Rattle.designate_core.specs.Unbroken.{down_from}
use Rattle.comet_names.specs.declared.comet.Comet.{Comet}
use Rattle.act_model.specs.declared.deed.Deed.{Deed}
use Rattle.act_model.specs.declared.entry.Entry.{Entry}
use Rattle.act_model.specs.Rows.{first_row}
use Rattle.comet_model.specs.declared.named.Found.{Found}
use Rattle.comet_model.specs.declared.named.Found.TheVariants as found
use Rattle.comet_model.specs.declared.named.NamedComet.{NamedComet}
use Rattle.comet_model.specs.declared.naming.Naming.{Naming}
use Rattle.comet_model.specs.declared.reply.CometRefusal.{CometRefusal}
use Rattle.comet_model.specs.declared.reply.CometRefusal.TheVariants.{HalfMonthFull}
use Rattle.comet_model.specs.Rows.{unless, ◌>>=◌}
use Rattle.comet_model.specs.Comets.{count_in, comet_of, next_named}
use Rattle.comet_model.specs.Finding.{found_of}
use Rattle.comet_model.specs.Namings.{naming_of}
use Rattle.comet_model.specs.Refusals.{half_in, already_rows, full_rows, naming_rows, names}
use Rattle.comet_model.specs.Register.{named_unless, named_if_read, named_by, with_named, comets}
use Rattle.comet_model.specs.Unbroken.{numbers_in, EachNamedOnce, UnbrokenNames, AreComets}
use Rattle.comet_model.proofs.Steps.{bound, unless_ok, ok_is}

-- ---- what a name is sure of that is given

pub record IsGiven (desk : List Deed) (past : List NamedComet) (naming : Naming) (named : NamedComet) : Type 0 where
  pub half : HalfMonth
  pub discovered : found_of desk naming.object ≡ found.Discovered half
  pub fresh : comet_of naming.object past ≡ None
  pub free : count_in half past < 99
  pub next : named ≡ next_named naming half past

in_half : (naming : Naming) (f : Found) (half : HalfMonth) → half_in naming.object f ≡ Ok half → f ≡ found.Discovered half
in_half naming found.NotGiven half is = absurd cc
in_half naming found.NoDiscovery half is = absurd cc
in_half naming (found.Discovered other) half is = ap (λ (h : HalfMonth). found.Discovered h) (ok_is other half is)

-- no row of the table held
rows_free : (o : Option Comet) (half : HalfMonth) (past : List NamedComet) → first_row (already_rows o ++ full_rows half past) ≡ None → (o ≡ None) × (count_in half past < 99)
rows_free (Some comet) half past none = absurd cc
rows_free None half past none = (refl, by (nat_le 99 (count_in half past)) refl none)
  where
    by : (b : Bool) → nat_le 99 (count_in half past) ≡ b → cond b (Some (HalfMonthFull half 99)) None ≡ None → count_in half past < 99
    by true is row = absurd cc
    by false is row = grind (arith, nat_tests)

module _ (desk : List Deed) (past : List NamedComet) (naming : Naming) where
  abbrev if_free : HalfMonth → Result NamedComet CometRefusal
  if_free half = unless (first_row (naming_rows naming.object half past)) (Ok (next_named naming half past))

  pub gives : (named : NamedComet) → names desk past naming ≡ Ok named → IsGiven desk past naming named
  unfolding names
  gives named is =
      let (half, half_is, rest) = bound (half_in naming.object (found_of desk naming.object)) if_free named is in
      let (none, same) = unless_ok (first_row (naming_rows naming.object half past)) (Ok (next_named naming half past)) named rest in
      let free = rows_free (comet_of naming.object past) half past none in
      record { half = half; discovered = in_half naming (found_of desk naming.object) half half_is; fresh = free.0; free = free.1; next = sym (ok_is (next_named naming half past) named same) }

-- and it is given again wherever the same was found of the designation
pub gives_again : (desk other : List Deed) (past : List NamedComet) (naming : Naming) (named : NamedComet) → names desk past naming ≡ Ok named → found_of other naming.object ≡ found_of desk naming.object → names other past naming ≡ Ok named
unfolding names
gives_again desk other past naming named is same = ap (λ (f : Found). half_in naming.object f >>= if_free desk past naming) same ∙ is

-- ---- what an entry names

-- what an entry names was asked for by its body, and is given
pub record IsNamed (desk : List Deed) (past : List NamedComet) (entry : Entry) (named : NamedComet) : Type 0 where
  pub naming : Naming
  pub read : naming_of entry.body ≡ Some naming
  pub given : names desk past naming ≡ Ok named

module _ (desk : List Deed) (past : List NamedComet) (entry : Entry) where
  unless_is : (r : Result NamedComet CometRefusal) (named : NamedComet) → named_unless r ≡ Some named → r ≡ Ok named
  unless_is (Ok other) named is = cc
  unless_is (Err refusal) named is = absurd cc

  pub named_is : (named : NamedComet) → named_by desk past entry ≡ Some named → IsNamed desk past entry named
  unfolding named_by
  named_is named is = by (naming_of entry.body) refl is
    where
      by : (o : Option Naming) → naming_of entry.body ≡ o → named_if_read desk past o ≡ Some named → IsNamed desk past entry named
      by (Some naming) read found = record { naming = naming; read = read; given = unless_is (names desk past naming) named found }
      by None read found = absurd cc

  pub named_again : (naming : Naming) (named : NamedComet) → naming_of entry.body ≡ Some naming → names desk past naming ≡ Ok named → named_by desk past entry ≡ Some named
  unfolding named_by
  named_again naming named read given = ap (named_if_read desk past) read ∙ ap named_unless given

-- what holds of every register, where it holds of each name that is given after what it holds of
pub each_named : (P : List NamedComet → Type 0) (desk : List Deed) → P [] → ((past : List NamedComet) (naming : Naming) (named : NamedComet) → P past → IsGiven desk past naming named → P (named ∷ past))
    → (entries : List Entry) → P (comets desk entries)
each_named P desk none more [] = none
each_named P desk none more (entry ∷ entries) = by (named_by desk (comets desk entries) entry) refl (each_named P desk none more entries)
  where
    by : (o : Option NamedComet) → named_by desk (comets desk entries) entry ≡ o → P (comets desk entries) → P (with_named o (comets desk entries))
    by None is before = before
    by (Some named) is before =
        let it = named_is desk (comets desk entries) entry named is in
        more (comets desk entries) it.naming named before (gives desk (comets desk entries) it.naming named it.given)

-- ---- the numbers in a half-month

-- half-months compare equal exactly where they are the same
abbrev pub AreSameHalves : Type 0
AreSameHalves = (one other : HalfMonth) → (eq_by_cmp half_cmp one other ≡ true) ↔ (one ≡ other)

abbrev Numbered : List NamedComet → Type 0
Numbered named = (half : HalfMonth) → numbers_in half named ≡ down_from 0 (count_in half named)

down_more : (n : ℕ) → (n + 1) ∷ down_from 0 n ≡ down_from 0 (n + 1)
down_more n = rw add-one (ap (λ (m : ℕ). m ∷ down_from 0 n) (sym (zero-add (suc n))))

module _ (halves : AreSameHalves) (desk : List Deed) where
  numbered_with : (past : List NamedComet) (naming : Naming) (named : NamedComet) → Numbered past → IsGiven desk past naming named → Numbered (named ∷ past)
  numbered_with past naming named before is = λ half.
      subst (λ (n : NamedComet). numbers_in half (n ∷ past) ≡ down_from 0 (count_in half (n ∷ past))) (sym is.next) (by half (eq_by_cmp half_cmp is.half half) refl)
    where
      by : (half : HalfMonth) (b : Bool) → eq_by_cmp half_cmp is.half half ≡ b
          → cond b ((count_in is.half past + 1) ∷ numbers_in half past) (numbers_in half past) ≡ down_from 0 (cond b (count_in half past + 1) (count_in half past))
      by half true same =
          let here : is.half ≡ half = (halves is.half half).0 same in
          ap (λ (h : HalfMonth). (count_in h past + 1) ∷ numbers_in half past) here ∙ ap (λ (ns : List ℕ). (count_in half past + 1) ∷ ns) (before half) ∙ down_more (count_in half past)
      by half false other = before half

  within_with : (past : List NamedComet) (naming : Naming) (named : NamedComet) → ((half : HalfMonth) → count_in half past ≤ 99) → IsGiven desk past naming named → (half : HalfMonth) → count_in half (named ∷ past) ≤ 99
  within_with past naming named before is half = subst (λ (n : NamedComet). count_in half (n ∷ past) ≤ 99) (sym is.next) (by (eq_by_cmp half_cmp is.half half) refl)
    where
      by : (b : Bool) → eq_by_cmp half_cmp is.half half ≡ b → cond b (count_in half past + 1) (count_in half past) ≤ 99
      by true same =
          let free = is.free in
          let here : count_in is.half past ≡ count_in half past = ap (λ (h : HalfMonth). count_in h past) ((halves is.half half).0 same) in
          omega (arith, here, free)
      by false other = before half

  once_with : (past : List NamedComet) (naming : Naming) (named : NamedComet) → EachNamedOnce past → IsGiven desk past naming named → EachNamedOnce (named ∷ past)
  once_with past naming named before is = (ap (λ (n : NamedComet). comet_of n.object past) is.next ∙ is.fresh, before)

  pub unbroken : (entries : List Entry) → UnbrokenNames desk entries
  unbroken entries = record {
    in_order = each_named Numbered desk (λ half. refl) numbered_with entries;
    within = each_named (λ named. (half : HalfMonth) → count_in half named ≤ 99) desk (λ half. omega arith) within_with entries;
    once = each_named EachNamedOnce desk tt once_with entries;
  }

-- ---- names that comets may have

module _ (desk : List Deed) (years : (d : Designation) (half : HalfMonth) → found_of desk d ≡ found.Discovered half → IsHalfMonth half) where
  comet_with : (past : List NamedComet) (naming : Naming) (named : NamedComet) → AreComets past → IsGiven desk past naming named → AreComets (named ∷ past)
  comet_with past naming named before is =
      let free = is.free in
      subst (λ (n : NamedComet). AreComets (n ∷ past)) (sym is.next)
      (record { half = years naming.object is.half is.discovered; number_from = omega arith; number_to = omega (arith, free) }, before)

  pub are_comets : (entries : List Entry) → AreComets (comets desk entries)
  are_comets = each_named AreComets desk tt comet_with
