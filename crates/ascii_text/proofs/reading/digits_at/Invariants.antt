use Rattle.std.proofs.Common.{◌≡◌, ℕ, ◌+◌, ◌^◌, ◌<◌, length}
use Rattle.ascii_text.specs.Digits.{base}
use Rattle.ascii_text.specs.Reading.{more_digits, digits_at}
use Rattle.ascii_text.proofs.reading.digits_at.Given as goal

abbrev pub invariant-loop : goal.invariant-loop
invariant-loop l = record {
  exact : (more whole : ℕ) → l.counter + more ≡ whole → more_digits l.radix l.value more l.rest ≡ digits_at l.radix whole l.text;
  below : l.value < base l.radix ^ l.counter;
  left : length l.rest + l.counter ≡ length l.text;
}
