use Rattle.std.proofs.Common.{◌∙◌}
use Rattle.look_command.proofs.looking.seen_in.Goals as goal

pub returns-in-Ok-between-clause-seen : goal.returns-in-Ok-between-clause-seen
returns-in-Ok-between-clause-seen g c = record {
  objects_in_range = c.in-Ok.ensures.in_range;
  sights_in_range = c.in-Ok-between.ensures.in_range;
  objects_told = c.in-Ok.ensures.objects;
  sights_told = λ lists is. c.in-Ok-between.ensures.sights lists (c.objects.ensures.kept ∙ is);
}
