-- What contracts see of the rulings on a batch.
use Rattle.std.specs.Prelude.{ℕ, List}
use Rattle.act_model.specs.declared.ruling.Ruling.{Ruling}

-- one ruling on each line, and how many groups have an accepted line
pub record JudgedLines : Type 0 where
  pub list : List Ruling
  pub groups : ℕ
