-- What a mirror over a file says about itself.
use Rattle.std.specs.Prelude.{ℕ, Option, None}
use Rattle.mirror_store.specs.declared.rows.MirrorRows.{MirrorRows}

-- its count of faults
pub record FileState : Type 0 where
  pub faults : ℕ

-- nothing of its rows
abbrev pub no_rows_told : Option MirrorRows
no_rows_told = None
