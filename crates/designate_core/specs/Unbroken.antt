-- Rows are unbroken.
use Rattle.std.specs.Prelude.{◌≡◌, ℕ, zero, suc, ◌+◌, ◌<◌, ◌≤◌, nat_lt, IsFalse, if◌then◌else◌, List, [], ◌∷◌}
use Rattle.std.specs.List.{Contains}
use Rattle.std.specs.Ordering.{eq_by_cmp}
use Rattle.packed_names.specs.declared.half_month.HalfMonth.{HalfMonth}
use Rattle.packed_names.specs.declared.provisional.Provisional.{Provisional}
use Rattle.packed_names.specs.Order.{half_cmp}
use Rattle.packed_names.specs.Ranges.{limit_of}
use Rattle.designate_core.specs.Takes.{RowAct, opened_in, taken_in, given_in, is_begun, designations_given}
use Rattle.designate_core.specs.Takes.RowAct.{Opened, Took}

-- the orders of the designations that are of a half-month
abbrev pub orders_in : HalfMonth → List Provisional → List ℕ
orders_in half [] = []
orders_in half (given ∷ past) =
    if eq_by_cmp half_cmp given.half half then given.order ∷ orders_in half past else orders_in half past

-- the n numbers after o, from o + n down to o + 1
abbrev pub down_from : ℕ → ℕ → List ℕ
down_from o zero = []
down_from o (suc n) = (o + suc n) ∷ down_from o n

-- An opening is of a half-month that isn't begun, with a count of 1 to its limit. A take is of one that isn't full.
abbrev pub FitsRows : List RowAct → RowAct → Type 0
FitsRows past (Opened half given) = IsFalse (is_begun half past) × (1 ≤ given) × (given ≤ limit_of half)
FitsRows past (Took take) = given_in take.half past < limit_of take.half

-- each act fits those before it
abbrev pub AreFitting : List RowAct → Type 0
AreFitting [] = Unit {0}
AreFitting (act ∷ past) = FitsRows past act × AreFitting past

-- no designation stands in the list twice
abbrev pub AreDifferent : List Provisional → Type 0
AreDifferent [] = Unit {0}
AreDifferent (given ∷ past) = (¬ Contains past given) × AreDifferent past

-- From the newest to the oldest, the orders that objects took in a half-month are o + N, o + N - 1, and so on down to
-- o + 1, where o is its opening count and N is how many they are.
abbrev pub UnbrokenRow : Type 0
UnbrokenRow = (half : HalfMonth) (acts : List RowAct) → AreFitting acts →
    orders_in half (designations_given acts) ≡ down_from (opened_in half acts) (taken_in half acts)

-- a half-month has no more designations than its limit
abbrev pub EachWithinLimit : Type 0
EachWithinLimit =
    (half : HalfMonth) (acts : List RowAct) → AreFitting acts → given_in half acts ≤ limit_of half

-- no designation was taken twice
abbrev pub EachGivenOnce : Type 0
EachGivenOnce = (acts : List RowAct) → AreFitting acts → AreDifferent (designations_given acts)

-- each order that an object took is above the opening count of its half-month, so that it wasn't given elsewhere
abbrev pub EachAboveOpening : Type 0
EachAboveOpening = (acts : List RowAct) (given : Provisional) → AreFitting acts →
    Contains (designations_given acts) given → opened_in given.half acts < given.order

-- in a half-month that isn't begun no designation was given
abbrev pub NoneBeforeBegun : Type 0
NoneBeforeBegun = (half : HalfMonth) (acts : List RowAct) → IsFalse (is_begun half acts) → given_in half acts ≡ 0

-- a half-month is begun exactly where a designation was given in it
abbrev pub BegunByCount : Type 0
BegunByCount = (half : HalfMonth) (acts : List RowAct) → AreFitting acts →
    is_begun half acts ≡ nat_lt 0 (given_in half acts)

-- with each act that fits, neither count of a half-month falls
abbrev pub CountsGrow : Type 0
CountsGrow = (half : HalfMonth) (act : RowAct) (past : List RowAct) → FitsRows past act →
    (opened_in half past ≤ opened_in half (act ∷ past)) × (given_in half past ≤ given_in half (act ∷ past))
