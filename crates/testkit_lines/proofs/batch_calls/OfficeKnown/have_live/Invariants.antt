use Rattle.std.proofs.Common.{◌≡◌, ◌+◌, ◌++◌, map, take, vec_len, vec_capacity}
use Rattle.tracklet_file.specs.Observations.{is_live_line}
use Rattle.batch_rules.specs.Memory.{memory_office}
use Rattle.testkit_lines.proofs.batch_calls.OfficeKnown.have_live.Given as goal

-- the lines that were passed have their answers, after those that were there; no memory was taken
abbrev pub invariant-loop-line : goal.invariant-loop-line
invariant-loop-line l = record {
  live : l.live.items ≡ l.fn.live.items ++ map (is_live_line memory_office.has_live) (take l.line-index l.lines);
  len : vec_len l.live ≡ vec_len l.fn.live + l.line-index;
  capacity : vec_capacity l.live ≡ vec_capacity l.fn.live;
}
