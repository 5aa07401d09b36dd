use Rattle.std.proofs.Common.{◌≡◌, ℕ, ◌+◌, ◌-◌, List, take, drop, ap, arith}
use Rattle.disk_model.proofs.Replays.{file_written, image_torn}
use Rattle.disk_model.proofs.record.play.Goals as goal

range_of : (start count : ℕ) (pool : List ℕ) → take (start + count - start) (drop start pool) ≡ take count (drop start pool)
range_of start count pool = let same : start + count - start ≡ count = omega arith in ap (λ (n : ℕ). take n (drop start pool)) same

pub returns-then-done-clause-file : goal.returns-then-done-clause-file
returns-then-done-clause-file c = λ first past same.
    file_written _ first _ _ _ past _ _ _ _ _ c.in-Wrote.is c.if-done.true (range_of c.in-Wrote.start c.in-Wrote.count c.args.pool.now) same c.write_over.ensures.items

pub returns-then-done-clause-image : goal.returns-then-done-clause-image
returns-then-done-clause-image c = λ first past same was.
    image_torn _ first _ _ _ past _ _ _ _ _ c.in-Wrote.is (range_of c.in-Wrote.start c.in-Wrote.count c.args.pool.now) was c.tear.ensures.torn
