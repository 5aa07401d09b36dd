-- Bytes of which a message is awaited.
use Rattle.std.specs.Prelude.{◌≡◌, ℕ, ◌+◌, ◌<◌, ◌≤◌, ◌⊎◌, Contains, List, ◌++◌, length, take, drop}
use Rattle.httparse.specs.Grammar.{MayBecomeRequest}
use Rattle.desk_http.specs.Heads.{HasHead, NoMessage}
use Rattle.desk_http.specs.Scans.{scanned}
use Rattle.desk_http.specs.declared.TheConstants.{HEAD_BYTES}
use Rattle.desk_http.specs.declared.scan.Looked.{Looked}
use Rattle.desk_http.specs.declared.scan.Scan.TheVariants.{Blank}

-- This many of the bytes were parsed, and can still become a head or end inside its target. No more have come since
-- than they are, and no line feed but those of empty lines in front. So a fault that settles the head is found where
-- the line feed after it comes, or before twice the bytes have come that settle it.
pub record IsParsed (bytes : List ℕ) (parsed : ℕ) : Type 0 where
  pub within : parsed ≤ length bytes
  pub half : length bytes ≤ parsed + parsed
  pub may : MayBecomeRequest (take parsed bytes)
  pub lines : (scanned bytes ≡ Blank) ⊎ ¬ (Contains (drop parsed bytes) 10)

-- how far bytes were looked at: all of them, up to this place of a head, and this many were parsed
pub record IsLooked (bytes : List ℕ) (looked : Looked) : Type 0 where
  pub scan : looked.scan ≡ scanned bytes
  pub seen : looked.seen ≡ length bytes
  pub parsed : IsParsed bytes looked.parsed

-- no head has come yet, and one still may: fewer bytes have come than the longest head has, and they were parsed
abbrev pub LacksHead : List ℕ → Type 0
LacksHead bytes = (length bytes < HEAD_BYTES) × ((parsed : ℕ) × IsParsed bytes parsed)

-- no message stands at the front of the bytes yet, and one still may: a head stands there whose body isn't all there,
-- or the head is still to come
abbrev pub IsAwaited : List ℕ → Type 0
IsAwaited bytes = NoMessage bytes × (HasHead bytes ⊎ LacksHead bytes)

-- the same, of bytes that come after those that were read ahead
abbrev pub AwaitsMessage : List ℕ → List ℕ → Type 0
AwaitsMessage ahead came = IsAwaited (ahead ++ came)
