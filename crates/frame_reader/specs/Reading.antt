-- Bytes of which a frame is awaited.
use Rattle.std.specs.Prelude.{ℕ, List, ◌++◌}
use Rattle.frame_grammar.specs.Frames.{NoFrame, NeverFrame}

-- no frame stands at the front of the bytes yet, and one still may
abbrev pub IsAwaited : List ℕ → Type 0
IsAwaited bytes = NoFrame bytes × ¬ NeverFrame bytes

-- the same, of bytes that come after those that were read ahead
abbrev pub AwaitsFrame : List ℕ → List ℕ → Type 0
AwaitsFrame ahead came = IsAwaited (ahead ++ came)
