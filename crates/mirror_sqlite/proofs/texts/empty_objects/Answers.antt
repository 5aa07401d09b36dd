use Rattle.sqlite.specs.Held.{state}
use Rattle.mirror_sqlite.proofs.Deleting.{loses_objects}
use Rattle.mirror_sqlite.proofs.texts.empty_objects.Goals as goal

pub returns-in-Ok-clause-changes : goal.returns-in-Ok-clause-changes
returns-in-Ok-clause-changes g c clean going =
    loses_objects (state g.S.Store c.args.tx.now.conn.now) (state g.S.Store c.execute.new.self.conn.now) c.in-Ok.field-0
    (c.in-Ok.ensures.runs clean going).0
