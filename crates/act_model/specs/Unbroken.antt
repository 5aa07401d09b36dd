-- The designations and the numbers of a history follow one another.
use Rattle.std.specs.Prelude.{◌≡◌, ◌+◌, ◌≤◌, List, [], ◌∷◌, ◌++◌, length}
use Rattle.std.specs.List.{AllByRecursion}
use Rattle.packed_names.specs.declared.half_month.HalfMonth.{HalfMonth}
use Rattle.packed_names.specs.declared.provisional.Provisional.{Provisional}
use Rattle.packed_names.specs.Ranges.{limit_of}
use Rattle.designate_core.specs.Takes.{opened_in}
use Rattle.designate_core.specs.Unbroken.{orders_in, down_from, AreDifferent}
use Rattle.numbering_core.specs.Unbroken.{numbers, designations, first_number, down_to, AreDifferent as AllDiffer}
use Rattle.act_model.specs.declared.deed.Deed.{Deed}
use Rattle.act_model.specs.declared.deed.Deed.TheVariants.{Designated, Opened}
use Rattle.act_model.specs.declared.entry.Entry.{Entry}
use Rattle.act_model.specs.Deeds.{deeds}
use Rattle.act_model.specs.Designations.{row_acts_of, with_orders}
use Rattle.act_model.specs.Numbers.{numbers_of}

-- an act `designate` adds the designation that it gives, and no other deed does
abbrev pub with_given : Deed → List Provisional → List Provisional
with_given (Designated tracklets given discovery) others = given ∷ others
with_given _ others = others

-- the designations that these acts gave, the newest first
abbrev pub given_by : List Deed → List Provisional
given_by [] = []
given_by (deed ∷ past) = with_given deed (given_by past)

-- an opening adds the designations that it carries, and no other deed does
abbrev pub with_carried : Deed → List Provisional → List Provisional
with_carried (Opened half given carried) others = with_orders half carried ++ others
with_carried _ others = others

-- the designations that openings carried, those of the newest opening first
abbrev pub carried_by : List Deed → List Provisional
carried_by [] = []
carried_by (deed ∷ past) = with_carried deed (carried_by past)

-- From the newest to the oldest, the orders that acts `designate` gave in a half-month are o + N, o + N - 1 and so on
-- down to o + 1, where o is its opening count, with o + N at most its limit. The orders that were carried are at most
-- o. No designation was given twice, by such an act or by being carried.
pub record UnbrokenRows (history : List Entry) : Type 0 where
  pub in_order : (half : HalfMonth) → orders_in half (given_by (deeds history))
      ≡ down_from (opened_in half (row_acts_of (deeds history))) (length (orders_in half (given_by (deeds history))))
  pub within : (half : HalfMonth) →
      opened_in half (row_acts_of (deeds history)) + length (orders_in half (given_by (deeds history))) ≤ limit_of half
  pub carried : (half : HalfMonth) →
      AllByRecursion (λ order. order ≤ opened_in half (row_acts_of (deeds history)))
      (orders_in half (carried_by (deeds history)))
  pub once : AreDifferent (given_by (deeds history) ++ carried_by (deeds history))

-- The numbers that were given run without a gap from the first one. No number was given twice, and no designation was
-- numbered twice.
pub record UnbrokenNumbers (history : List Entry) : Type 0 where
  pub without_gap : numbers (numbers_of (deeds history))
      ≡ down_to (first_number (numbers (numbers_of (deeds history)))) (length (numbers_of (deeds history)))
  pub numbers_once : AllDiffer (numbers (numbers_of (deeds history)))
  pub designations_once : AllDiffer (designations (numbers_of (deeds history)))
