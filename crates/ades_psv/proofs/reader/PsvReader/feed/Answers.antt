use Rattle.ades_psv.proofs.Readers.{feeds_fault}
use Rattle.ades_psv.proofs.reader.PsvReader.feed.Goals as goal

pub returns-clause-header : goal.returns-clause-header
returns-clause-header c = λ text fault line is told.
    feeds_fault c.lines.ensures text c.args.piece.now c.args.self.now c.take.new.self c.take.result fault line c.take.ensures.exact is told
