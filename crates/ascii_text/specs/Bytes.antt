-- The bytes that the formats' rules name.
use Rattle.std.specs.Prelude.{ℕ, Bool, ◌&&◌, nat_le}

-- a space, the only byte that counts as a blank
abbrev pub blank : ℕ
blank = 32

-- the point before decimals
abbrev pub point : ℕ
point = 46

-- the end of a line, LF
abbrev pub line_feed : ℕ
line_feed = 10

-- the bar between the fields of a line
abbrev pub vertical_bar : ℕ
vertical_bar = 124

-- the asterisk that marks a discovery
abbrev pub asterisk : ℕ
asterisk = 42

-- a printable character, a blank included
abbrev pub is_printable : ℕ → Bool
is_printable byte = nat_le 32 byte && nat_le byte 126

-- a printable character other than a blank
abbrev pub is_visible : ℕ → Bool
is_visible byte = nat_le 33 byte && nat_le byte 126
