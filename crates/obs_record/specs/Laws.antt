-- What holds of short texts and of magnitudes.
use Rattle.std.specs.Prelude.{◌≡◌, ℕ, ◌^◌, ◌<◌, ◌≤◌, List, length, take, Some}
use Rattle.obs_record.specs.Short.{IsShort, kept_short}
use Rattle.obs_record.specs.Magnitudes.{magnitude_of, HasDecimals}

pub record RecordLaws : Type 0 where
  -- what is kept is a short text
  pub kept_is_short : (text : List ℕ) → IsShort (kept_short text)
  -- a text that is short enough is kept whole
  pub kept_again : (text : List ℕ) (n : ℕ) → length text ≡ n → n ≤ 12 → take n (kept_short text).bytes ≡ text
  -- a magnitude has the decimals that it is made of
  pub made_of_decimals : (whole count value : ℕ) → count ≤ 6 → HasDecimals (Some (magnitude_of whole count value)) count
  -- decimals are less than a magnitude of 1
  pub decimals_below : (count value : ℕ) → count ≤ 6 → value < 10 ^ count → magnitude_of 0 count value < 1000000
