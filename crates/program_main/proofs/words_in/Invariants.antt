use Rattle.std.proofs.Common.{◌≡◌, map, string_bytes}
use Rattle.program_main.proofs.words_in.Given as goal

abbrev pub invariant-words : goal.invariant-words
invariant-words g l = l.words ≡ map string_bytes l.yielded
