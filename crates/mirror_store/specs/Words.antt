-- What a mirror says about itself.
use Rattle.std.specs.Prelude.{ℕ, Option}
use Rattle.mirror_store.specs.declared.rows.MirrorRows.{MirrorRows}

pub record MirrorWords (M : Type 0) : Type 1 where
  pub told : M → Option MirrorRows
  pub faults : M → ℕ

abbrev pub mirror_words : {M : Type 0} → (M → Option MirrorRows) → (M → ℕ) → MirrorWords M
mirror_words told faults = record { told = told; faults = faults }
