use Rattle.std.proofs.Common.{Ok}
use Rattle.sqlite.specs.Held.{state}
use Rattle.mirror_sqlite.proofs.Creating.{creates_sights}
use Rattle.mirror_sqlite.proofs.tables.make_sights.Goals as goal

pub returns-in-Ok : goal.returns-in-Ok
returns-in-Ok g c clean has =
    creates_sights (state g.S.Store c.args.conn.now) (state g.S.Store c.execute-made.new.self) (Ok c.in-Ok.field-0) has
    (c.in-Ok.ensures.runs clean)
