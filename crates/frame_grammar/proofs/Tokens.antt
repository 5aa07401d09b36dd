-- A text of bytes of one class, up to the byte that ends it.
use Rattle.std.proofs.Common.{IsTrue, false, ◌≡◌, ◌≢◌, ℕ, ◌+◌, ◌<◌, ◌≤◌, ◌⊎◌, inl, inr, List, [], ◌∷◌, ◌++◌, length, get_or, take, drop, refl, sym, ap, subst, ◌∙◌, append_assoc, arith, lit≤}
use Rattle.std.specs.List.{AllByRecursion}
use Rattle.std.proofs.lemmas.List.{take-append-drop, drop_more, length-append, length-take-le}
use Rattle.frame_grammar.specs.Frames.{IsToken}
use Rattle.frame_grammar.specs.declared.parts.Class.{Class}
use Rattle.frame_grammar.specs.declared.parts.Class.TheVariants as classes
use Rattle.std.specs.Prelude.{Result, Ok, Err}
use Rattle.frame_grammar.specs.declared.parts.Unread.{Unread}
use Rattle.frame_grammar.specs.declared.parts.Unread.TheVariants as unread
use Rattle.frame_grammar.specs.Reading.{Lacks, Begins, Reads, ReadsToken, stopped, IsOf, IsBegun}

pub each_next : (P : ℕ → Type 0) (xs : List ℕ) (y : ℕ) (ys : List ℕ) → AllByRecursion P (xs ++ y ∷ ys) → P y
each_next P [] y ys all = all.0
each_next P (x ∷ xs) y ys all = each_next P xs y ys all.1

head_is : (x y : ℕ) (xs ys : List ℕ) → x ∷ xs ≡ y ∷ ys → x ≡ y
head_is x y xs ys e = cc

tail_is : (x y : ℕ) (xs ys : List ℕ) → x ∷ xs ≡ y ∷ ys → xs ≡ ys
tail_is x y xs ys e = cc

-- a text of the class before its end, held against bytes of the class before a byte: they end together, or the text has
-- that byte
module _ (P : ℕ → Type 0) (stop : ℕ) (apart : (byte : ℕ) → P byte → byte ≢ stop) where
  compare : (text front : List ℕ) (byte : ℕ) (rest tail : List ℕ) → AllByRecursion P text → AllByRecursion P front → text ++ stop ∷ rest ≡ front ++ byte ∷ tail
      → ((text ≡ front) × (stop ≡ byte) × (rest ≡ tail)) ⊎ ((beyond : List ℕ) × (text ≡ front ++ byte ∷ beyond))
  compare [] [] byte rest tail here there e = inl (refl, cc, cc)
  compare [] (c ∷ front) byte rest tail here there e = absurd (apart c there.0 (sym (head_is stop c rest (front ++ byte ∷ tail) e)))
  compare (t ∷ text) [] byte rest tail here there e = inr (text, ap (λ (c : ℕ). c ∷ text) (head_is t byte (text ++ stop ∷ rest) tail e))
  compare (t ∷ text) (c ∷ front) byte rest tail here there e =
      let first : t ≡ c = head_is t c (text ++ stop ∷ rest) (front ++ byte ∷ tail) e in
      let second : text ++ stop ∷ rest ≡ front ++ byte ∷ tail = tail_is t c (text ++ stop ∷ rest) (front ++ byte ∷ tail) e in
      elim (compare text front byte rest tail here.1 there.1 second) [
        | inl ends ↦ inl (cc, ends.1, ends.2)
        | inr longer ↦ inr (longer.0, cc)
      ]

  -- a text is cut once at the byte that ends it
  pub one_cut : (a b x y : List ℕ) → AllByRecursion P a → AllByRecursion P b → a ++ stop ∷ x ≡ b ++ stop ∷ y → (a ≡ b) × (x ≡ y)
  one_cut a b x y here there e =
      elim (compare a b stop x y here there e) [
        | inl ends ↦ (ends.0, ends.2)
        | inr longer ↦ absurd (apart stop (each_next P b stop longer.0 (subst (λ (text : List ℕ). AllByRecursion P text) longer.1 here)) refl)
      ]

  -- bytes of the class, and after them one that neither ends a field nor goes on with it
  pub never_token : (most : ℕ) (front : List ℕ) (byte : ℕ) (tail : List ℕ) → AllByRecursion P front → ((length front ≡ most) ⊎ (P byte → ⊥)) → ((byte ≡ stop) → length front ≡ 0)
      → (more : List ℕ) → Lacks (IsToken P most) (stopped stop) ((front ++ byte ∷ tail) ++ more)
  never_token most front byte tail all last unended more text rest good e =
      let regrouped : text ++ stop ∷ rest ≡ front ++ byte ∷ (tail ++ more) = sym e ∙ append_assoc front (byte ∷ tail) more in
      elim (compare text front byte rest (tail ++ more) good.each all regrouped) [
        | inl ends ↦ omega (arith, good.some, ap length ends.0, unended (sym ends.1))
        | inr longer ↦ elim last [
          | inl full ↦ omega (arith, good.few, ap length longer.1, length-append front (byte ∷ longer.0))
          | inr not_of ↦ not_of (each_next P front byte longer.0 (subst (λ (t : List ℕ). AllByRecursion P t) longer.1 good.each))
        ]
      ]

  -- where all bytes are of the class, none of them ends the field
  pub none_yet : (bytes text rest : List ℕ) → AllByRecursion P bytes → bytes ≡ text ++ stop ∷ rest → ⊥
  none_yet bytes text rest all e = apart stop (each_next P text stop rest (subst (λ (t : List ℕ). AllByRecursion P t) e all)) refl

-- a list around the place i
pub around : (xs : List ℕ) (i : ℕ) → i < length xs → xs ≡ take i xs ++ get_or xs i 0 ∷ drop (i + 1) xs
around xs i lt = sym (take-append-drop i xs) ∙ ap (λ (t : List ℕ). take i xs ++ t) (drop_more xs i 0 lt)

pub not_true : IsTrue false → ⊥
not_true e = cc

-- the bytes of a class come after the ends of fields
pub above : (class : Class) (byte : ℕ) → IsOf class byte → 33 ≤ byte
above classes.Printable byte is = is.0
above classes.Digit byte is = omega (arith, is.0)
above classes.Verb byte is = elim is [ inl digit ↦ omega (arith, digit.0) | inr letter ↦ omega (arith, letter.0) ]

pub apart : (class : Class) (stop : ℕ) → stop < 33 → (byte : ℕ) → IsOf class byte → byte ≢ stop
apart class stop low byte is e = omega (arith, above class byte is)

-- the byte at place i neither ends the field nor goes on with it, while those before it are of the class
pub never_at : (class : Class) (most stop : ℕ) → stop < 33 → (bytes : List ℕ) (i : ℕ) → i < length bytes → AllByRecursion (IsOf class) (take i bytes)
    → ((i ≡ most) ⊎ (IsOf class (get_or bytes i 0) → ⊥)) → (get_or bytes i 0 ≡ stop → i ≡ 0)
    → (more : List ℕ) → Lacks (IsToken (IsOf class) most) (stopped stop) (bytes ++ more)
never_at class most stop low bytes i lt before last unended more =
    let long : length (take i bytes) ≡ i = length-take-le i bytes (omega arith) in
    subst (λ (b : List ℕ). Lacks (IsToken (IsOf class) most) (stopped stop) (b ++ more)) (sym (around bytes i lt))
    (never_token (IsOf class) stop (apart class stop low) most (take i bytes) (get_or bytes i 0) (drop (i + 1) bytes) before
    (elim last [ inl full ↦ inl (long ∙ full) | inr not_of ↦ inr not_of ]) (λ e. long ∙ unended e) more)

-- a byte of each class
abbrev pub sample : Class → ℕ
sample classes.Printable = 48
sample classes.Digit = 48
sample classes.Verb = 48

pub sample_is : (class : Class) → IsOf class (sample class)
sample_is classes.Printable = (lit≤ tt, lit≤ tt)
sample_is classes.Digit = (lit≤ tt, lit≤ tt)
sample_is classes.Verb = inl (lit≤ tt, lit≤ tt)

-- bytes of the class, few enough: the byte that ends the field completes it, after one of the class where there is none
-- yet
token_begins : (class : Class) (most stop : ℕ) → 0 < most → (bytes : List ℕ) → IsBegun (IsOf class) most bytes → Begins (IsToken (IsOf class) most) (stopped stop) bytes
token_begins class most stop some [] begun = (sample class ∷ stop ∷ [], sample class ∷ [], record { some = omega arith; few = omega arith; each = (sample_is class, tt) }, refl)
token_begins class most stop some (b ∷ bytes) begun = (stop ∷ [], b ∷ bytes, record { some = omega arith; few = begun.few; each = begun.each }, refl)

-- a field of bytes of one class is read
pub token_reads : {X : Type 0} (class : Class) (most stop : ℕ) → stop < 33 → 0 < most → (view : X → List ℕ × List ℕ) (bytes : List ℕ) (r : Result X Unread)
    → ReadsToken (IsOf class) most stop view bytes r → Reads (IsToken (IsOf class) most) (stopped stop) view bytes r
token_reads class most stop low some view bytes (Ok x) reads = reads
token_reads class most stop low some view bytes (Err unread.Part) begun =
    (λ text rest good e. none_yet (IsOf class) stop (apart class stop low) bytes text rest begun.each e, token_begins class most stop some bytes begun)
token_reads class most stop low some view bytes (Err unread.Bad) never = never
