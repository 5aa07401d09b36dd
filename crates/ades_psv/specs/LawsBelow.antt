-- The laws of the crates below, together.
use Rattle.std.specs.Prelude.{ℕ, ◌<◌, ◌≤◌, List, length, All, ℤ, pos, neg_ℤ, ◌≤ℤ◌}
use Rattle.ascii_text.specs.Laws.{TextLaws}
use Rattle.angle_fixed.specs.Angles.{circle, quarter}
use Rattle.angle_fixed.specs.Laws.{AngleLaws}
use Rattle.obs_time.specs.Instants.{IsInstantNs}
use Rattle.obs_time.specs.Laws.{TimeLaws}
use Rattle.packed_names.specs.Laws.{NameLaws}
use Rattle.obs_record.specs.Filed.{IsVisible, IsOwnName}
use Rattle.obs_record.specs.Laws.{RecordLaws}
use Rattle.obs_record.specs.Short.{kept_short}
use Rattle.ades_psv.specs.Rules.{IsTime, IsRa, IsDec}

pub record Laws : Type 0 where
  pub texts : TextLaws
  pub angles : AngleLaws
  pub times : TimeLaws
  pub names : NameLaws
  pub records : RecordLaws
  -- what is read is in its range: a time, a right ascension, a declination, a temporary designation
  pub time : (text : List ℕ) (t : ℤ) → IsTime text t → IsInstantNs t
  pub ra : (text : List ℕ) (ra : ℕ) → IsRa text ra → ra < circle
  pub dec : (text : List ℕ) (dec : ℤ) → IsDec text dec → (neg_ℤ (pos quarter) ≤ℤ dec) × (dec ≤ℤ pos quarter)
  pub own : (text : List ℕ) → 1 ≤ length text → length text ≤ 12 → All IsVisible text → IsOwnName (kept_short text)
