-- Labels hold short texts.
use Rattle.std.specs.Prelude.{◌≡◌, ℕ, ◌-◌, ◌≤◌, List, length, take, drop, replicate}
use Rattle.packed_names.specs.declared.label.Label.{Label}

-- the label holds the text, and zeros after it
pub record IsLabelOf (text : List ℕ) (label : Label) : Type 0 where
  pub len : label.len ≡ length text
  pub fits : label.len ≤ 13
  pub text_is : take label.len label.bytes ≡ text
  pub zeros : drop label.len label.bytes ≡ replicate (13 - label.len) 0
