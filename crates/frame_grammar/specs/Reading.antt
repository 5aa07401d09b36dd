-- What a reader of the bytes that have come so far says of the part of a head at their front.
use Rattle.std.specs.Prelude.{◌≡◌, ◌≢◌, ℕ, ◌+◌, ◌-◌, ◌*◌, ◌≤◌, List, [], ◌∷◌, ◌++◌, length, drop, Result, Ok, Err}
use Rattle.std.specs.Prelude.{decimal}
use Rattle.std.specs.List.{AllByRecursion}
use Rattle.frame_grammar.specs.declared.parts.Unread.{Unread}
use Rattle.frame_grammar.specs.declared.parts.Unread.TheVariants as unread
use Rattle.frame_grammar.specs.declared.parts.Class.{Class}
use Rattle.frame_grammar.specs.declared.parts.Class.TheVariants as class
use Rattle.frame_grammar.specs.declared.head.Head.{Head}
use Rattle.frame_grammar.specs.declared.head.Front.{Front}
use Rattle.frame_grammar.specs.declared.head.Front.TheVariants as front
use Rattle.frame_grammar.specs.Frames.{IsPrintable, IsDigit, IsVerbByte, IsToken, HeadParts, IsHead, head_bytes}

-- A part is given by its values: those that are good, and the bytes of each before what follows.

-- no such part stands at the front
abbrev pub Lacks : {V : Type 0} → (V → Type 0) → (V → List ℕ → List ℕ) → List ℕ → Type 0
Lacks {V} good spelled bytes = (v : V) (rest : List ℕ) → good v → bytes ≡ spelled v rest → ⊥

-- these bytes are the front of such a part: some bytes that may follow complete it
abbrev pub Begins : {V : Type 0} → (V → Type 0) → (V → List ℕ → List ℕ) → List ℕ → Type 0
Begins {V} good spelled bytes = (more : List ℕ) × (v : V) × good v × (bytes ++ more ≡ spelled v [])

-- why a part isn't read: it hasn't come yet but may come, or it can't come any more
abbrev pub Fails : {V : Type 0} → (V → Type 0) → (V → List ℕ → List ℕ) → List ℕ → Unread → Type 0
Fails good spelled bytes unread.Part = Lacks good spelled bytes × Begins good spelled bytes
Fails good spelled bytes unread.Bad = (more : List ℕ) → Lacks good spelled (bytes ++ more)

-- a part is read with the bytes after it where it stands at the front, and otherwise it is said why it isn't
abbrev pub Reads : {V X : Type 0} → (V → Type 0) → (V → List ℕ → List ℕ) → (X → V × List ℕ) → List ℕ → Result X Unread
    → Type 0
Reads good spelled view bytes (Ok x) = good (view x).0 × (bytes ≡ spelled (view x).0 (view x).1)
Reads good spelled view bytes (Err e) = Fails good spelled bytes e

-- ---- fields

-- the bytes of a class
abbrev pub IsOf : Class → ℕ → Type 0
IsOf class.Printable byte = IsPrintable byte
IsOf class.Digit byte = IsDigit byte
IsOf class.Verb byte = IsVerbByte byte

-- a text before the byte that ends it
abbrev pub stopped : ℕ → List ℕ → List ℕ → List ℕ
stopped stop text rest = text ++ stop ∷ rest

-- the bytes that have come are of the class, and not too many for the field
pub record IsBegun (IsOfClass : ℕ → Type 0) (most : ℕ) (bytes : List ℕ) : Type 0 where
  pub few : length bytes ≤ most
  pub each : AllByRecursion IsOfClass bytes

-- why a field of bytes of one class isn't read
abbrev pub FailsToken : (ℕ → Type 0) → ℕ → ℕ → List ℕ → Unread → Type 0
FailsToken IsOfClass most stop bytes unread.Part = IsBegun IsOfClass most bytes
FailsToken IsOfClass most stop bytes unread.Bad = (more : List ℕ)
    → Lacks (IsToken IsOfClass most) (stopped stop) (bytes ++ more)

-- a field of bytes of one class, up to the byte that ends it
abbrev pub ReadsToken : {X : Type 0} → (ℕ → Type 0) → ℕ → ℕ → (X → List ℕ × List ℕ) → List ℕ → Result X Unread → Type 0
ReadsToken IsOfClass most stop view bytes (Ok x) = IsToken IsOfClass most (view x).0
    × (bytes ≡ stopped stop (view x).0 (view x).1)
ReadsToken IsOfClass most stop view bytes (Err e) = FailsToken IsOfClass most stop bytes e

-- a number's text before the byte that ends it
abbrev pub numbered : ℕ → ℕ → List ℕ → List ℕ
numbered stop n rest = decimal n ++ stop ∷ rest

-- the number that decimal digits write when they follow those of n
abbrev pub number_from : ℕ → List ℕ → ℕ
number_from n [] = n
number_from n (digit ∷ digits) = number_from (10 * n + (digit - 48)) digits

-- a zero stands in front, and after it something else than the byte that ends a number
abbrev pub HasZeroInFront : ℕ → List ℕ → Type 0
HasZeroInFront stop [] = ⊥
HasZeroInFront stop (first ∷ []) = ⊥
HasZeroInFront stop (first ∷ second ∷ rest) = (first ≡ 48) × (second ≢ stop)

-- ---- heads

-- what a head says, without where its texts lie in memory
abbrev pub parts_of : Head → HeadParts
parts_of head = record { key = head.key.now; number = head.number; verb = head.verb.now; length = head.length }

-- the bytes begin with this head, which takes this many of them
pub record IsHeadAt (bytes : List ℕ) (h : HeadParts) (size : ℕ) : Type 0 where
  pub good : IsHead h
  pub spelled : bytes ≡ head_bytes h (drop size bytes)
  pub within : size ≤ length bytes

-- a fact of the head, where the answer is a whole one
abbrev pub IfWhole : Front → (Head → Type 0) → Type 0
IfWhole (front.Whole head) P = P head
IfWhole front.Part P = Unit {0}
IfWhole front.Bad P = Unit {0}

-- the answer is a whole head, with a fact of it
abbrev pub IsWholeAnd : Front → (Head → Type 0) → Type 0
IsWholeAnd (front.Whole head) P = P head
IsWholeAnd front.Part P = ⊥
IsWholeAnd front.Bad P = ⊥
