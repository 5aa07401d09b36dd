-- What contracts see of a register.
use Rattle.std.specs.Prelude.{ℕ, List}
use Rattle.numbering_core.specs.declared.verdict.Verdict.{Verdict}
use Rattle.numbering_core.specs.declared.numbering.Numbering.{Numbering}

-- the verdicts, the numbers with the newest first, and for how many more of each there is memory
pub record RegisterValue : Type 0 where
  pub verdicts : List Verdict
  pub numbered : List Numbering
  pub spare : ℕ
