use Rattle.std.proofs.Common.{length, ap, arith}
use Rattle.act_model.specs.Deeds.{deeds}
use Rattle.mirror_store.proofs.CountLemmas.{length-in_object}
use Rattle.mirror_store.proofs.objects.object_row.Goals as goal

pub overflow_cast-result : goal.overflow_cast-result
overflow_cast-result g c =
    let past = deeds (g.V.Shelf.history c.args.shelf.now) in
    omega (arith, c.len.ensures, ap length c.in_ok-live.ensures, length-in_object past c.args.p, c.requires.few)
