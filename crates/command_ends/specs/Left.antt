-- What a command leaves of the office.
use Rattle.std.specs.Prelude.{◌≡◌, ◌+◌, ℕ, List, length}
use Rattle.act_model.specs.declared.entry.Entry.{Entry}
use Rattle.act_model.specs.History.{EachNumberOnce}
use Rattle.act_model.specs.Places.{OnePlace}
use Rattle.act_model.specs.Unbroken.{UnbrokenRows, UnbrokenNumbers}
use Rattle.mpc_desk.specs.Accepted.{AddsLines}

-- The history at the end has this many entries more, and each caller's number stands for at most one. Each accepted
-- observation stands in exactly one place, the designations of each half-month follow one another without gap or
-- repeat, and so do the numbers. Each newer entry added its own accepted lines to the accepted observations, and took
-- none away.
pub record IsLeft (first last : List Entry) (added : ℕ) : Type 0 where
  pub entries : length last ≡ length first + added
  pub once : EachNumberOnce last
  pub places : OnePlace last
  pub rows : UnbrokenRows last
  pub numbers : UnbrokenNumbers last
  pub lines : AddsLines first last
