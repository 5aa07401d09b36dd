use Rattle.std.proofs.Common.{◌≡◌, ◌<◌, ◌^◌, drop}
use Rattle.frame_grammar.specs.Reading.{number_from}
use Rattle.frame_grammar.proofs.parts.value_of.Given as goal

-- the digits that are left, after those that were read, write the whole number
abbrev pub invariant-loop-digit : goal.invariant-loop-digit
invariant-loop-digit l = record {
  so_far : number_from l.value (drop l.digit-index l.digits) ≡ number_from 0 l.digits;
  below : l.value < 10 ^ l.digit-index;
}
