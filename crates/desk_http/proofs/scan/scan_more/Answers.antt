use Rattle.std.proofs.Common.{sym, ◌∙◌}
use Rattle.desk_http.proofs.Scans.{ends_early}
use Rattle.desk_http.proofs.scan.scan_more.Goals as goal

pub returns-then-is_ended : goal.returns-then-is_ended
returns-then-is_ended c before is = ends_early c.args.scan c.loop-byte.now before c.args.bytes.now c.loop-byte.byte-index is c.loop-byte.invariant (sym c.is_ended.ensures ∙ c.if-is_ended.true)
