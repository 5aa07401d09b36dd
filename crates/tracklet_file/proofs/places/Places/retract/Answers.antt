use Rattle.std.proofs.Common.{◌<◌, ◌≤◌, length, ap, sym, subst, arith}
use Rattle.tracklet_file.specs.Places.{KeptPlaces, IsIndexed}
use Rattle.tracklet_file.proofs.IndexLemmas.{retracted_indexed, retracted_waits}
use Rattle.tracklet_file.proofs.places.Places.retract.Goals as goal

pub returns-then-place-len-clause-filed : goal.returns-then-place-len-clause-filed
returns-then-place-len-clause-filed c = λ o at.
    let was = subst (λ (v : KeptPlaces). IsIndexed c.args.filed.now v) (sym c.self.view_is) c.requires.filed in
    let inside : c.args.place < length c.self.inside.index.marks = omega (arith, c.if-place-len.true, c.len.ensures) in
    rw (c.unmark.ensures.marks, c.unmark.ensures.room) (retracted_indexed c.args.filed.now _ was c.args.place o c.requires.there at inside)

pub returns-else-place-len-clause-filed : goal.returns-else-place-len-clause-filed
returns-else-place-len-clause-filed c = λ o at.
    let waits : length c.args.self.now.marks ≤ c.args.place = omega (arith, c.if-place-len.false, c.len.ensures, ap (λ (v : KeptPlaces). length v.marks) c.self.view_is) in
    retracted_waits c.args.filed.now c.args.self.now c.requires.filed c.args.place o c.requires.there at waits
