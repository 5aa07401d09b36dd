use Rattle.std.proofs.Common.{◌≡◌, ◌+◌, ◌++◌, drop}
use Rattle.act_model.specs.Deeds.{deeds}
use Rattle.mirror_store.specs.Mirrored.{object_rows_from}
use Rattle.mirror_store.proofs.objects.object_rows.Given as goal

-- the rows so far and those of the names that are left are those of all
abbrev pub invariant-loop-before : goal.invariant-loop-before
invariant-loop-before g l =
    let past = deeds (g.V.Shelf.history l.shelf) in
    l.rows ++ object_rows_from past (l.before + 1) (drop l.before l.names) ≡ object_rows_from past 1 l.names
