use Rattle.std.proofs.Common.{◌≡◌, ◌+◌, ◌^◌, ◌<◌, ◌++◌, length}
use Rattle.ascii_text.specs.Digits.{base, digits_text}
use Rattle.ascii_text.proofs.writing.put_digits.Given as goal

abbrev pub invariant-loop-place : goal.invariant-loop-place
invariant-loop-place g l = record {
  text : l.out.items ++ digits_text l.radix l.place l.left ≡ l.fn.out.items ++ digits_text l.radix l.count l.n;
  below : l.left < base l.radix ^ l.place;
  len : length l.out.items + l.place ≡ length l.fn.out.items + l.count;
}
