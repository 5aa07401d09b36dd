-- Short texts, and how a text is kept in one.
use Rattle.std.specs.Prelude.{◌≡◌, ℕ, ◌-◌, ◌≤◌, min, Bool, ◌&&◌, ◌==◌, List, ◌++◌, length, take, replicate}
use Rattle.std.specs.Str.{bytes_eq}
use Rattle.obs_record.specs.declared.short.Short.{Short}

-- a short text: 12 bytes are kept, and those after the text are 0
pub record IsShort (short : Short) : Type 0 where
  pub room : length short.bytes ≡ 12
  pub within : short.len ≤ 12
  pub zeros : short.bytes ≡ take short.len short.bytes ++ replicate (12 - short.len) 0

-- the text, or its first 12 bytes where it is longer; zeros after it
unfoldable pub kept_short : List ℕ → Short
kept_short text = record { len = min (length text) 12; bytes = take 12 text ++ replicate (12 - length text) 0 }

-- the two are the same text
abbrev pub same_short : Short → Short → Bool
same_short one other = (one.len == other.len) && bytes_eq one.bytes other.bytes
