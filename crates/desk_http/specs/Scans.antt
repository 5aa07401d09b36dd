-- Where a head may end: at the first empty line after a line that isn't empty.
use Rattle.std.specs.Prelude.{ℕ, Bool, true, false, ◌==◌, if◌then◌else◌, List, fold}
use Rattle.desk_http.specs.declared.scan.Scan.{Scan}
use Rattle.desk_http.specs.declared.scan.Scan.TheVariants.{Blank, Inside, LineEnd, Return, Ended}

-- an empty line has come after a line that isn't empty
abbrev pub is_ended : Scan → Bool
is_ended Blank = false
is_ended Inside = false
is_ended LineEnd = false
is_ended Return = false
is_ended Ended = true

-- how far a head has come with one byte more
unfoldable pub scan_byte : Scan → ℕ → Scan
scan_byte Blank byte = if byte == 10 then Blank else (if byte == 13 then Blank else Inside)
scan_byte Inside byte = if byte == 10 then LineEnd else Inside
scan_byte LineEnd byte = if byte == 10 then Ended else (if byte == 13 then Return else Inside)
scan_byte Return byte = if byte == 10 then Ended else Inside
scan_byte Ended byte = Ended

-- how far a head has come with these bytes
unfoldable pub scanned : List ℕ → Scan
scanned bytes = fold scan_byte Blank bytes
