-- How many observations and tracklets the office has.
use Rattle.std.specs.Prelude.{ℕ, List, length}
use Rattle.act_model.specs.declared.deed.Deed.{Deed}
use Rattle.act_model.specs.Holdings.{holdings}

abbrev pub observations : List Deed → ℕ
observations past = length (holdings past).observations
