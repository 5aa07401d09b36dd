use Rattle.std.proofs.Common.{◌≡◌, ◌+◌, ◌++◌, take}
use Rattle.arrayvec.specs.ArrayVec.{array_vec_len}
use Rattle.comet_names.proofs.printed.put_half.Given as goal

abbrev pub invariant-loop-byte : goal.invariant-loop-byte
invariant-loop-byte l = record {
  text : l.text.items ≡ l.fn.text.items ++ take l.byte-index l.byte-items;
  len : array_vec_len l.text ≡ array_vec_len l.fn.text + l.byte-index;
}
