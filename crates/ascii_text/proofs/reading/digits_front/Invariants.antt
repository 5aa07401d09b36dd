use Rattle.std.proofs.Common.{◌≡◌, ℕ, ◌+◌, ◌^◌, ◌<◌, length, drop}
use Rattle.ascii_text.specs.declared.digits.Radix.TheVariants.{Ten}
use Rattle.ascii_text.specs.Reading.{more_digits, digits_at, digit_run}
use Rattle.ascii_text.proofs.reading.digits_front.Given as goal

abbrev pub invariant-digits : goal.invariant-digits
invariant-digits l = record {
  value : (more whole : ℕ) → l.count + more ≡ whole → more_digits Ten l.value more l.rest ≡ digits_at Ten whole l.text;
  below : l.value < 10 ^ l.count;
  run : digit_run l.text ≡ l.count + digit_run l.rest;
  rest : l.rest ≡ drop l.count l.text;
  left : length l.rest + l.count ≡ length l.text;
}
