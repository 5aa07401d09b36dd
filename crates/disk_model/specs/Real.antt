-- A disk over a real file, of whose content nothing is known.
use Rattle.std.specs.Prelude.{◌≡◌, ℕ, Bool, List, Option, Some, None, is_none}
use Rattle.std.proofs.Common.{ap, true≢false}

-- whether the file is open, and how often a call failed
pub record FileState : Type 0 where
  pub is_open : Bool
  pub faults : ℕ

-- no read is known
abbrev pub unread : FileState → Option (List ℕ)
unread disk = None

-- no image is known, now or since a moment
abbrev pub no_image : FileState → List ℕ → Type 0
no_image disk image = ⊥

abbrev pub no_image_since : FileState → ℕ → List ℕ → Type 0
no_image_since disk t image = ⊥

-- and one moment is as good as another
abbrev pub no_moment : FileState → ℕ
no_moment disk = 0

-- what is unknown is no reading
pub untold : (file : List ℕ) → None ≡ Some file → ⊥
untold file is = true≢false (ap (λ (told : Option (List ℕ)). is_none told) is)
