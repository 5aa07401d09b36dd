use Rattle.std.proofs.Common.{ℕ, ◌+◌, ◌≤◌, length, drop, ap, ◌∙◌, arith}
use Rattle.std.proofs.lemmas.List.{length-take, length-drop}
use Rattle.read_ahead.proofs.Buffers.{part_used}
use Rattle.read_ahead.proofs.ahead.ReadAhead.skip.Goals as goal

pub returns : goal.returns
returns c =
    let r = c.self.inside in
    let inside : r.start + c.args.count ≤ r.end = omega (arith, ap length c.self.view_is, length-take {A = ℕ}, length-drop {A = ℕ}) in
    part_used r.buffer.items r.start r.end c.args.count inside ∙ ap (drop c.args.count) c.self.view_is
