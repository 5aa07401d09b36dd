use Rattle.std.proofs.Common.{◌≡◌, ◌+◌, ◌≤◌, ◌++◌, drop, length, reverse}
use Rattle.numbering_core.specs.Numbers.{IsUnbroken}
use Rattle.object_rules.proofs.noting.give.Given as goal

-- what is left goes on from the numbers so far, and has room
abbrev pub invariant-loop-pair : goal.invariant-loop-pair
invariant-loop-pair l =
    record {
      numbered : reverse (drop l.pair-index l.pairs) ++ l.register.numbered ≡ reverse l.pairs ++ l.fn.register.numbered;
      unbroken : IsUnbroken (reverse (drop l.pair-index l.pairs) ++ l.register.numbered);
      verdicts : l.register.verdicts ≡ l.fn.register.verdicts;
      room : length (drop l.pair-index l.pairs) ≤ l.register.spare;
      used : l.fn.register.spare + length (drop l.pair-index l.pairs) ≤ l.register.spare + length l.pairs;
      no_more : l.register.spare + length (drop l.pair-index l.pairs) ≤ l.fn.register.spare + length l.pairs;
    }
