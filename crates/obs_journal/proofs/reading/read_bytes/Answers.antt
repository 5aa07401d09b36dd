use Rattle.std.proofs.Common.{◌≡◌, ◌≤◌, ◌++◌, length, take, drop, ap, subst, arith, length-append, length-take}
use Rattle.disk_model.specs.Files.{Gives}
use Rattle.std.specs.Prelude.{IfSome}
use Rattle.obs_journal.proofs.Quiet.{unwritten_call, unwritten_joined, if_both, piece_more}
use Rattle.obs_journal.proofs.reading.read_bytes.Goals as goal

pub loop-left-preserved : goal.loop-left-preserved
loop-left-preserved g c =
    let h = c.loop-left.invariant in
    let items : c.extend_from_slice.new.self.items ≡ c.loop-left.bytes.items ++ take c.in_ok-got.got (c.read_at.new.piece ++ drop c.min-want.result c.loop-left.piece) = c.in_ok-extend_from_slice.ensures.items in
    let got_le : c.in_ok-got.got ≤ c.loop-left.left = omega (arith, c.in_ok-got.ensures.within, length-take c.min-want.result c.loop-left.piece) in
    let front : c.in_ok-got.got ≤ length c.read_at.new.piece = omega (arith, c.in_ok-got.ensures.within, c.read_at.auto.piece) in
    let piece_long = length-append c.read_at.new.piece (drop c.min-want.result c.loop-left.piece) in
    let taken = length-take c.in_ok-got.got (c.read_at.new.piece ++ drop c.min-want.result c.loop-left.piece) in
    record {
      place = omega (arith, h.place);
      within = omega (arith, h.within);
      size = omega (arith, h.size, ap length items, length-append c.loop-left.bytes.items (take c.in_ok-got.got (c.read_at.new.piece ++ drop c.min-want.result c.loop-left.piece)), taken, piece_long);
      told = if_both _ _ _ (g.D.Disk.reads c.args.disk.now) (λ file told given. piece_more file c.args.bytes.now.items c.loop-left.bytes.items _ c.read_at.new.piece (take c.min-want.result c.loop-left.piece) _ c.args.at c.args.count c.loop-left.from c.in_ok-got.got c.loop-left.left got_le given items told)
          h.told (subst (λ r. IfSome r (λ file. Gives file c.loop-left.from c.in_ok-got.got (take c.min-want.result c.loop-left.piece) c.read_at.new.piece)) h.unwritten.same c.in_ok-got.ensures.given);
      unwritten = unwritten_joined h.unwritten (unwritten_call g.D.Disk.reads g.D.Disk.leaves g.D.Disk.moment g.D.Disk.since g.met.D.Disk.counts_now c.read_at.ensures.reads c.read_at.ensures.time c.read_at.ensures.images);
      counts = omega (arith, h.counts, c.read_at.ensures.counts);
    }
