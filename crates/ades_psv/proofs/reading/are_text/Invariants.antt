use Rattle.std.proofs.Common.{◌≡◌, take}
use Rattle.std.specs.List.{list_all}
use Rattle.ades_psv.specs.Reading.{is_text_byte}
use Rattle.ades_psv.proofs.reading.are_text.Given as goal

abbrev pub invariant-bytes : goal.invariant-bytes
invariant-bytes l = l.are ≡ list_all is_text_byte (take l.byte-index l.line)
