use Rattle.std.proofs.Common.{◌≡◌, take}
use Rattle.std.specs.List.{list_all}
use Rattle.ascii_text.specs.Bytes.{is_printable}
use Rattle.ascii_text.proofs.characters.are_printable.Given as goal

abbrev pub invariant-bytes : goal.invariant-bytes
invariant-bytes l = l.are ≡ list_all is_printable (take l.byte-index l.text)
