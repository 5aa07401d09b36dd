use Rattle.std.proofs.Common.{map, take}
use Rattle.httparse.specs.Spans.{header_bytes}
use Rattle.http1.specs.Fields.{values_named}
use Rattle.desk_http.specs.Fronts.{IsNamed}
use Rattle.desk_http.proofs.head.field_named.Given as goal

abbrev pub invariant-loop-header : goal.invariant-loop-header
invariant-loop-header l = IsNamed l.named (values_named l.name (map (header_bytes l.bytes) (take l.header-index l.headers)))
