-- The names of a register follow one another in each half-month, and no designation has two.
use Rattle.std.specs.Prelude.{◌≡◌, ℕ, ◌≤◌, if◌then◌else◌, List, [], ◌∷◌, None}
use Rattle.std.specs.List.{AllByRecursion}
use Rattle.std.specs.Ordering.{eq_by_cmp}
use Rattle.packed_names.specs.declared.half_month.HalfMonth.{HalfMonth}
use Rattle.packed_names.specs.Order.{half_cmp}
use Rattle.designate_core.specs.Unbroken.{down_from}
use Rattle.comet_names.specs.Ranges.{IsComet}
use Rattle.act_model.specs.declared.deed.Deed.{Deed}
use Rattle.act_model.specs.declared.entry.Entry.{Entry}
use Rattle.comet_model.specs.declared.named.NamedComet.{NamedComet}
use Rattle.comet_model.specs.Comets.{count_in, comet_of}
use Rattle.comet_model.specs.Register.{comets}

-- the numbers of the comets that are of a half-month, C and P together
abbrev pub numbers_in : HalfMonth → List NamedComet → List ℕ
numbers_in half [] = []
numbers_in half (named ∷ past) =
    if eq_by_cmp half_cmp named.comet.half half then named.comet.number ∷ numbers_in half past
    else numbers_in half past

-- none of the designations that got a name had one before
abbrev pub EachNamedOnce : List NamedComet → Type 0
EachNamedOnce [] = Unit {0}
EachNamedOnce (named ∷ past) = (comet_of named.object past ≡ None) × EachNamedOnce past

-- From the newest to the oldest, the numbers in a half-month are N, N - 1 and so on down to 1, where N is how many
-- comets it has, C and P together, at most 99. No designation has two names.
pub record UnbrokenNames (desk : List Deed) (entries : List Entry) : Type 0 where
  pub in_order : (half : HalfMonth) →
      numbers_in half (comets desk entries) ≡ down_from 0 (count_in half (comets desk entries))
  pub within : (half : HalfMonth) → count_in half (comets desk entries) ≤ 99
  pub once : EachNamedOnce (comets desk entries)

-- each name is one that a comet may have
abbrev pub AreComets : List NamedComet → Type 0
AreComets named = AllByRecursion (λ n. IsComet n.comet) named
