-- The designations that the office gave, and the principal ones among them.
use Rattle.std.specs.Prelude.{ℕ, Bool, is_some, List, [], ◌∷◌, map, filter, Option, option_map}
use Rattle.packed_names.specs.declared.half_month.HalfMonth.{HalfMonth}
use Rattle.packed_names.specs.declared.name.Designation.{Designation}
use Rattle.packed_names.specs.declared.name.Designation.TheVariants.{Provisional}
use Rattle.packed_names.specs.declared.provisional.Provisional.{Provisional as ProvisionalName}
use Rattle.designate_core.specs.Takes.{RowAct}
use Rattle.designate_core.specs.Takes.RowAct.{Opened as OpenedRow, Took}
use Rattle.identify_core.specs.Acts.{LinkAct, principal, is_principal_of, given_in_order}
use Rattle.identify_core.specs.Acts.LinkAct.{Given, Joined, Parted}
use Rattle.act_model.specs.declared.deed.Deed.{Deed}
use Rattle.act_model.specs.declared.deed.Deed.TheVariants.{Designated, Identified, Separated, Opened}

-- ---- designations given

-- A half-month is opened with the count of those that were given elsewhere, and an act `designate` takes the next one
-- of its half-month. No other deed comes to the rows.
abbrev pub with_row_act : Deed → List RowAct → List RowAct
with_row_act (Opened half given carried) rows = OpenedRow half given ∷ rows
with_row_act (Designated tracklets given discovery) rows =
    Took (record { half = given.half; discovery = discovery }) ∷ rows
with_row_act _ rows = rows

-- what came to the rows of the half-months, the newest first
abbrev pub row_acts_of : List Deed → List RowAct
row_acts_of [] = []
row_acts_of (deed ∷ past) = with_row_act deed (row_acts_of past)

-- the designation of a half-month that has this order, and those that have these
abbrev pub with_order : HalfMonth → ℕ → ProvisionalName
with_order half order = record { half = half; order = order }

abbrev pub with_orders : HalfMonth → List ℕ → List ProvisionalName
with_orders half orders = map (with_order half) orders

-- ---- principals

-- designations are given, one after the other
abbrev pub with_all_given : List ProvisionalName → List LinkAct → List LinkAct
with_all_given [] acts = acts
with_all_given (given ∷ more) acts = with_all_given more (Given (Provisional given) ∷ acts)

-- A designation that is given is its own principal, and so is each one that an opening carries. Objects are made one,
-- or two again. No other deed changes a principal.
abbrev pub with_link : Deed → List LinkAct → List LinkAct
with_link (Designated tracklets given discovery) acts = Given (Provisional given) ∷ acts
with_link (Opened half given carried) acts = with_all_given (with_orders half carried) acts
with_link (Identified p s) acts = Joined p s ∷ acts
with_link (Separated s) acts = Parted s ∷ acts
with_link _ acts = acts

abbrev pub links_of : List Deed → List LinkAct
links_of [] = []
links_of (deed ∷ past) = with_link deed (links_of past)

-- the office gave the designation
abbrev pub is_given : List LinkAct → Designation → Bool
is_given acts d = is_some (principal acts d)

-- the designation is its own principal
abbrev pub is_principal : List LinkAct → Designation → Bool
is_principal acts d = is_principal_of d (principal acts d)

-- the principal designations, in the order of designations
abbrev pub principals : List LinkAct → List Designation
principals acts = filter (is_principal acts) (given_in_order acts)

-- what a designation stands for, where the office gave it: itself
abbrev pub stands : List LinkAct → Designation → Option Designation
stands acts d = option_map (λ _. d) (principal acts d)
