-- Labels hold short texts.
use Rattle.std.specs.Prelude.{◌≡◌, ℕ, ◌-◌, ◌≤◌, List, length, take, drop, replicate}
use Rattle.comet_names.specs.declared.label.Label9.{Label9}

-- the label holds the text, and zeros after it
pub record IsLabel9Of (text : List ℕ) (label : Label9) : Type 0 where
  pub len : label.len ≡ length text
  pub fits : label.len ≤ 10
  pub text_is : take label.len label.bytes ≡ text
  pub zeros : drop label.len label.bytes ≡ replicate (10 - label.len) 0
