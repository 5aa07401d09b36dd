-- Bytes that come out of a source, after those that were read ahead, and a text that is read out of both.
use Rattle.std.specs.Prelude.{◌≡◌, ℕ, ◌+◌, ◌*◌, ◌<◌, ◌≤◌, ◌⊎◌, List, [], ◌∷◌, ◌++◌, length, Option, Some, None}
use Rattle.std.specs.Prelude.{Result, Ok, Err, IfSome}
use Rattle.std.specs.Io.KnownBytes.{Consumes, IsAtEnd}
use Rattle.call_log.specs.Counts.{Rises}
use Rattle.desk_io.specs.Reads.{Passes, Comes}
use Rattle.read_ahead.specs.declared.TheConstants.{BUFFER_BYTES}
use Rattle.read_ahead.specs.declared.body.TheConstants.{BODY_BYTES}
use Rattle.read_ahead.specs.declared.body.Body.{Body}
use Rattle.read_ahead.specs.declared.body.Body.TheVariants as bodies
use Rattle.read_ahead.specs.declared.halt.Halt.{Halt}
use Rattle.read_ahead.specs.declared.halt.Halt.TheVariants as halts

-- one read gave a piece of the source's bytes, or none, after those that were read ahead
pub record ReadsOnce {S : Type 0} (left : S → Option (List ℕ)) (gives : Passes S) (before after : S)
    (ahead grown : List ℕ) : Type 0 where
  pub piece : List ℕ
  pub consumed : Consumes (left before) (left after) piece
  pub gave : gives before piece after
  pub behind : grown ≡ ahead ++ piece

-- the source wasn't read, or once while nothing was read ahead
abbrev pub ReadsAhead : {S : Type 0} → (S → Option (List ℕ)) → Passes S → S → S → List ℕ → List ℕ → Type 0
ReadsAhead left gives before after ahead grown =
    ((after ≡ before) × (grown ≡ ahead)) ⊎ ((ahead ≡ []) × ReadsOnce left gives before after ahead grown)

-- how much work is left at most: a buffer and one more for each read that can still give bytes, and the bytes that were
-- read ahead
abbrev pub work : ℕ → List ℕ → ℕ
work reads ahead = reads * (BUFFER_BYTES + 1) + length ahead

-- ---- a text of a known length

-- fewer bytes have come, with those that were read ahead, than a text has
abbrev pub LacksText : List ℕ → ℕ → List ℕ → Type 0
LacksText ahead size came = length (ahead ++ came) < size

-- a text of this many bytes stands at the front, before this rest, and was read; what is said about it is true
pub record IsTextRead (front : List ℕ) (size : ℕ) (IsTold : List ℕ → Type 0) (rest : List ℕ) : Type 0 where
  pub text : List ℕ
  pub stands : front ≡ text ++ rest
  pub long : length text ≡ size
  pub told : IsTold text

-- what was kept of a text is all of it
abbrev pub IsAllOf : Option (List ℕ) → List ℕ → Type 0
IsAllOf kept text = IfSome kept (λ bytes. bytes ≡ text)

-- What is said about a body is true of its text: what was kept is all of it, what is too long to be kept has this
-- length, and memory was refused only for what isn't too long.
abbrev pub IsBody : Body → List ℕ → Type 0
IsBody (bodies.Whole bytes) text = (bytes ≡ text) × (length text ≤ BODY_BYTES)
IsBody (bodies.TooLong size) text = (size ≡ length text) × (BODY_BYTES < size)
IsBody bodies.NoRoom text = length text ≤ BODY_BYTES

-- why a text isn't read whole: the source ended inside it, or failed
abbrev pub IsCut : Option (List ℕ) → Halt → Type 0
IsCut left halts.End = ⊥
IsCut left halts.Bad = IsAtEnd left
IsCut left halts.Failed = Unit {0}

-- a text was read, of which an answer tells something, or fewer bytes have come than it has
abbrev pub ReadsText : {X : Type 0} → (X → List ℕ → Type 0) → List ℕ → ℕ → List ℕ → Option (List ℕ) → Result X Halt
    → Type 0
ReadsText IsTold front size rest left (Ok x) = IsTextRead front size (IsTold x) rest
ReadsText IsTold front size rest left (Err halt) = (length front < size) × IsCut left halt

-- the count of faults rose where it is said that the source failed, and stayed in any other call
abbrev pub Counted : {X : Type 0} → Result X Halt → ℕ → ℕ → Type 0
Counted (Ok x) before now = now ≡ before
Counted (Err halts.End) before now = now ≡ before
Counted (Err halts.Bad) before now = now ≡ before
Counted (Err halts.Failed) before now = Rises before now

-- ---- messages of a kind, of which `IsNone` says that none stands at the front of the bytes

-- no message comes: none can stand at the front any more, whatever may follow, or the source is at its end inside one
abbrev pub NoneComes : (List ℕ → Type 0) → List ℕ → Option (List ℕ) → Type 0
NoneComes IsNone front left =
    ((more : List ℕ) → IsNone (front ++ more)) ⊎ (IsNone front × (0 < length front) × IsAtEnd left)

-- why no message was read: nothing came, nothing is left, and the source is at its end; none comes; or the source
-- failed where none stood at the front
abbrev pub Halts : (List ℕ → Type 0) → List ℕ → List ℕ → Option (List ℕ) → Halt → Type 0
Halts IsNone front rest left halts.End = (front ≡ []) × (rest ≡ []) × IsAtEnd left
Halts IsNone front rest left halts.Bad = NoneComes IsNone front left
Halts IsNone front rest left halts.Failed = IsNone front

-- why none comes where the source is at its end, and none stands at the front of the bytes that it gave
abbrev pub halt_at_end : List ℕ → Halt
halt_at_end [] = halts.End
halt_at_end (byte ∷ bytes) = halts.Bad

-- ---- all that a source supplied

-- these are the bytes that are left in a source, as far as they are known
abbrev pub Remains : Option (List ℕ) → List ℕ → Type 0
Remains None more = more ≡ []
Remains (Some left) more = left ≡ more

-- These bytes came out of a source, and all bytes that it held, where they are known, are those and what is left. No
-- read was made but where the bytes before it asked for more, so that no byte was taken without need.
pub record Supplies {S : Type 0} (left : S → Option (List ℕ)) (gives : Passes S) (Asks : List ℕ → Type 0)
    (before after : S) (came more : List ℕ) : Type 0 where
  pub whole : IfSome (left before) (λ bytes. bytes ≡ came ++ more)
  pub rest : Remains (left after) more
  pub comes : Comes left gives Asks before after came
