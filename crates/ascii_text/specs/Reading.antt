-- Reading from the front of a text: a reader gives a value and the text after it, or nothing.
use Rattle.std.specs.Prelude.{◌≡◌, refl, ℕ, zero, suc, ◌+◌, ◌-◌, ◌*◌, nat_lt, nat_le, ◌==◌, ◌&&◌, ◌||◌, if◌then◌else◌}
use Rattle.std.specs.Prelude.{slice_index, List, [], ◌∷◌, Option, Some, None}
use Rattle.std.specs.Char.{is_ascii_digit}
use Rattle.std.specs.List.{prefix_len}
use Rattle.ascii_text.specs.declared.digits.Radix.{Radix}
use Rattle.ascii_text.specs.declared.digits.Radix.TheVariants.{Ten, SixtyTwo}
use Rattle.ascii_text.specs.Digits.{base}

-- the next step on what a step gave, or nothing where it gave nothing
infixl 10 ◌>>=◌
abbrev pub ◌>>=◌ : {A B : Type 0} → Option A → (A → Option B) → Option B
(Some x) >>= f = f x
None >>= f = None

-- where the steps give something, the first gave something too, and the next steps give this of it; a clause can't
-- range over all types, so this law stands beside its word
pub bind_some : {A B : Type 0} (o : Option A) (f : A → Option B) (y : B) → (o >>= f) ≡ Some y → (x : A) × (o ≡ Some x)
    × (f x ≡ Some y)
bind_some (Some x) f y e = (x, refl, e)
bind_some None f y e = absurd cc

-- the digit of base 62 that a byte stands for
unfoldable pub sixty_two_value : ℕ → Option ℕ
sixty_two_value byte =
    if nat_le 48 byte && nat_le byte 57 then Some (byte - 48)
    else (if nat_le 65 byte && nat_le byte 90 then Some (byte - 55)
    else (if nat_le 97 byte && nat_le byte 122 then Some (byte - 61) else None))

-- the digit that a byte stands for
unfoldable pub digit_value : Radix → ℕ → Option ℕ
digit_value Ten byte = if nat_le 48 byte && nat_le byte 57 then Some (byte - 48) else None
digit_value SixtyTwo byte = sixty_two_value byte

-- one digit
unfoldable pub digit_at : Radix → List ℕ → Option (ℕ × List ℕ)
digit_at radix [] = None
digit_at radix (byte ∷ text) = do
  digit ← digit_value radix byte
  Some (digit, text)

-- this many digits more, after those that the value was read from
unfoldable pub more_digits : Radix → ℕ → ℕ → List ℕ → Option (ℕ × List ℕ)
more_digits radix value zero text = Some (value, text)
more_digits radix value (suc count) text = do
  first ← digit_at radix text
  more_digits radix (value * base radix + first.0) count first.1

-- a number of this many digits
unfoldable pub digits_at : Radix → ℕ → List ℕ → Option (ℕ × List ℕ)
digits_at radix count text = more_digits radix 0 count text

-- the text after this byte
unfoldable pub behind : ℕ → List ℕ → Option (List ℕ)
behind byte [] = None
behind byte (first ∷ text) = if first == byte then Some text else None

-- how many decimal digits stand at the front
unfoldable pub digit_run : List ℕ → ℕ
digit_run text = prefix_len is_ascii_digit text

-- all the decimal digits at the front, as the number of them and their value; at least one
unfoldable pub run_at : List ℕ → Option ((ℕ × ℕ) × List ℕ)
run_at text =
    if digit_run text == 0 then None
    else (digits_at Ten (digit_run text) text >>= λ digits. Some ((digit_run text, digits.0), digits.1))

-- the decimals of a number, as the number of them and their value: none without a point; after a point
-- stands at least one
unfoldable pub decimals_at : List ℕ → Option ((ℕ × ℕ) × List ℕ)
decimals_at text = if slice_index text 0 == 46 then (behind 46 text >>= run_at) else Some ((0, 0), text)

-- decimals, or nothing in their place where they are more than this
abbrev pub at_most : ℕ → (ℕ × ℕ) × List ℕ → Option (Option (ℕ × ℕ) × List ℕ)
at_most most decimals = Some (if nat_lt most decimals.0.0 then None else Some decimals.0, decimals.1)

-- all the decimal digits at the front where they are at most this many, and nothing in their place where they are more
abbrev pub run_within : ℕ → List ℕ → Option (Option (ℕ × ℕ) × List ℕ)
run_within most text = run_at text >>= at_most most

-- the decimals of a number where they are at most this many, and nothing in their place where they are more
unfoldable pub decimals_within : ℕ → List ℕ → Option (Option (ℕ × ℕ) × List ℕ)
decimals_within most text = decimals_at text >>= at_most most

-- a number without leading zeros: all the decimal digits at the front, which are at most this many
unfoldable pub number_at : ℕ → List ℕ → Option (ℕ × List ℕ)
number_at most text =
    if (digit_run text == 0) || (nat_lt most (digit_run text)
    || (nat_lt 1 (digit_run text) && (slice_index text 0 == 48))) then None
    else digits_at Ten (digit_run text) text
