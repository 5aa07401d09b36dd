-- Roots that are split for several threads.
use Rattle.std.specs.Prelude.{◌≡◌, ℕ, ◌+◌, ◌≤◌}
use Rattle.intake_lock.specs.declared.view.Role.{Role}
use Rattle.intake_lock.specs.declared.view.Role.TheVariants.{Root}
use Rattle.intake_lock.specs.Rule.{MOST}

-- a root from which so many more branches may be split
abbrev pub IsRootFor : ℕ → Role → Type 0
IsRootFor more role = (out : ℕ) × (role ≡ Root out) × (out + more ≤ MOST)
