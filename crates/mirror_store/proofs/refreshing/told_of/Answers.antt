use Rattle.std.proofs.Common.{length, ap, arith}
use Rattle.mirror_store.proofs.CountLemmas.{few_objects, few_sights}
use Rattle.mirror_store.proofs.refreshing.told_of.Goals as goal

pub overflow_cast-result : goal.overflow_cast-result
overflow_cast-result g c =
    let history = g.V.Shelf.history c.args.shelf.now in
    omega (arith, c.len.ensures, ap (λ rows. length rows.objects) c.requires.rows, few_objects history c.requires.countable)

pub overflow_cast-result-2 : goal.overflow_cast-result-2
overflow_cast-result-2 g c =
    let history = g.V.Shelf.history c.args.shelf.now in
    omega (arith, c.len-2.ensures, ap (λ rows. length rows.sights) c.requires.rows, few_sights history c.requires.countable)
