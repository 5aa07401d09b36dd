use Rattle.std.proofs.Common.{◌≡◌, fold, take}
use Rattle.desk_http.specs.Scans.{scan_byte}
use Rattle.desk_http.proofs.scan.scan_more.Given as goal

abbrev pub invariant-loop-byte : goal.invariant-loop-byte
invariant-loop-byte l = l.now ≡ fold scan_byte l.fn.scan (take l.byte-index l.bytes)
