-- What a deed on objects fits, and what it asks of what is kept.
use Rattle.std.proofs.Common.{◌≡◌, ℕ, ℤ, Bool, true, false, cond, List, [], ◌∷◌, ◌++◌, map, take, Option, Some, None, Result, Ok, Err, refl, sym, ap, ◌∙◌}
use Rattle.std.specs.Prelude.{IfOk, IfSome, is_some, flat_map}
use Rattle.numbering_core.specs.Numbers.{next_number}
use Rattle.act_model.specs.declared.act.Act.{Act}
use Rattle.act_model.specs.declared.act.Act.TheVariants as act
use Rattle.act_model.specs.declared.deed.Deed.{Deed}
use Rattle.act_model.specs.declared.deed.Deed.TheVariants.{Enrolled, Stationed, Coded, Submitted, Designated, Attributed, Released, Identified, Separated, Judged, Numbered, Opened, Retracted, Nothing}
use Rattle.act_model.specs.declared.entry.Entry.{Entry}
use Rattle.act_model.specs.declared.reply.Refusal.{Refusal}
use Rattle.act_model.specs.Acts.{IsRead}
use Rattle.act_model.specs.Deeds.{deeds}
use Rattle.act_model.specs.Designations.{row_acts_of}
use Rattle.act_model.specs.Discoveries.{seen_in}
use Rattle.act_model.specs.Doing.{tracklet_row, free_rows, next_rows, designates_seen, eligible_after, does}
use Rattle.act_model.specs.Fitting.{FitsObjects}
use Rattle.act_model.specs.Holdings.{holdings}
use Rattle.act_model.specs.Numbers.{numbers_of, numbered_from}
use Rattle.act_model.specs.Rows.{first_row, unless, IsDue}
use Rattle.object_rules.specs.Noting.{is_of_objects}
use Rattle.desk_core.specs.Doing.{IsActAtOnce}
use Rattle.desk_core.specs.Office.{Fits}

-- a deed on objects fits where it fits the objects
objects_fit : (past : List Deed) (deed : Deed) → is_of_objects deed ≡ true → FitsObjects past deed → Fits past deed
objects_fit past (Designated tracklets given discovery) is fits = fits
objects_fit past (Attributed t to) is fits = fits
objects_fit past (Released t) is fits = fits
objects_fit past (Identified p s) is fits = fits
objects_fit past (Separated s) is fits = fits
objects_fit past (Judged p u oppositions) is fits = fits
objects_fit past (Numbered pairs) is fits = fits
objects_fit past (Opened half given carried) is fits = fits
objects_fit past (Enrolled member) is fits = absurd cc
objects_fit past (Stationed code from to) is fits = absurd cc
objects_fit past (Coded kind letter word) is fits = absurd cc
objects_fit past (Submitted lines) is fits = absurd cc
objects_fit past (Retracted k) is fits = absurd cc
objects_fit past Nothing is fits = absurd cc

abbrev pub ActsFit : Type 0
ActsFit = (history : List Entry) (moment : ℤ) (act : Act) (deed : Deed) → IsRead act → does (deeds history) moment act ≡ Ok deed → FitsObjects (deeds history) deed

-- what an act on objects does fits
pub done_fits : ActsFit → (history : List Entry) (moment : ℤ) (act : Act) (result : Result Deed Refusal) → IsRead act
    → IsDue (does (deeds history) moment act) result → IfOk result (λ deed. is_of_objects deed ≡ true) → IfOk result (Fits (deeds history))
done_fits law history moment act (Ok deed) read due kind = objects_fit (deeds history) deed kind (law history moment act deed read due)
done_fits law history moment act (Err refusal) read due kind = tt

-- the same where the answer is exactly what is due
pub done_exactly : ActsFit → (history : List Entry) (moment : ℤ) (act : Act) (result : Result Deed Refusal) → IsRead act
    → result ≡ does (deeds history) moment act → IfOk result (λ deed. is_of_objects deed ≡ true) → IfOk result (Fits (deeds history))
done_exactly law history moment act (Ok deed) read is kind = objects_fit (deeds history) deed kind (law history moment act deed read (sym is))
done_exactly law history moment act (Err refusal) read is kind = tt

-- ---- what is refused before memory is asked for

first_front : {A : Type 0} (one other : List (Bool × A)) (found : A) → first_row one ≡ Some found → first_row (one ++ other) ≡ Some found
first_front [] other found is = absurd cc
first_front (row ∷ rows) other found is = by (first_front rows other found) row.0 is
  where
    by : (first_row rows ≡ Some found → first_row (rows ++ other) ≡ Some found) → (b : Bool) → cond b (Some row.1) (first_row rows) ≡ Some found → cond b (Some row.1) (first_row (rows ++ other)) ≡ Some found
    by rest true is = is
    by rest false is = rest is

-- the first rows refuse it
at_once : (one other : List (Bool × Refusal)) (o : Option Refusal) (goes_on result : Result Deed Refusal) → first_row one ≡ o → IfSome o (λ r. result ≡ Err r) → is_some o ≡ true → result ≡ unless (first_row (one ++ other)) goes_on
at_once one other (Some r) goes_on result is refused some = refused ∙ ap (λ (x : Option Refusal). unless x goes_on) (sym (first_front one other r is))
at_once one other None goes_on result is refused some = absurd cc

module _ (past : List Deed) (moment : ℤ) (result : Result Deed Refusal) where
  pub designates_at_once : (ts : List ℕ) → IfSome (first_row (map (tracklet_row (holdings past).tracklets) ts)) (λ r. result ≡ Err r) → IsActAtOnce past (act.Designate ts) → result ≡ does past moment (act.Designate ts)
  unfolding does
  designates_at_once ts refused once =
      at_once (map (tracklet_row (holdings past).tracklets) ts) (flat_map (free_rows (holdings past)) ts) _ (designates_seen (row_acts_of past) ts (seen_in (holdings past).observations ts)) result refl refused once

  pub numbers_at_once : (first most : ℕ) → IfSome (first_row (next_rows (next_number (numbers_of past)) first)) (λ r. result ≡ Err r) → IsActAtOnce past (act.Number first most) → result ≡ does past moment (act.Number first most)
  unfolding does
  numbers_at_once first most refused once =
      at_once (next_rows (next_number (numbers_of past)) first) _ _ (Ok (Numbered (numbered_from first (take most (eligible_after past))))) result refl refused once

-- ---- what a deed asks of what is kept
