-- Counts of faults that rose.
use Rattle.std.proofs.Common.{ℕ, ◌-◌, ◌<◌, ◌≤◌, arith}
use Rattle.std.specs.Prelude.{max}
use Rattle.call_log.specs.Counts.{Rises}
use Rattle.act_model.specs.Keepers.{RoseBy}
use Rattle.mpc_desk.specs.Desks.{count_of}

-- a count rose by the difference, or by something where it rose or stands at the end of its type
pub rose_any : (a b : ℕ) → a ≤ b → RoseBy (count_of b - count_of a) (count_of a) (count_of b)
rose_any a b later = omega arith

pub rose_fault : (a b : ℕ) → a ≤ b → Rises a b → (rise : ℕ) × (0 < rise) × RoseBy rise (count_of a) (count_of b)
rose_fault a b later rises = (max 1 (count_of b - count_of a), omega arith, omega arith)

pub rose_none : (a : ℕ) → RoseBy 0 (count_of a) (count_of a)
rose_none a = omega arith
