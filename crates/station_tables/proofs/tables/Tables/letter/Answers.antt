use Rattle.std.proofs.Common.{is_some, ap, ◌∙◌}
use Rattle.station_tables.specs.Codes.{letter_of}
use Rattle.station_tables.proofs.CodeLemmas.{is_some-letter_of}
use Rattle.station_tables.proofs.tables.Tables.letter.Goals as goal

pub returns-clause-found : goal.returns-clause-found
returns-clause-found c = ap is_some (c.letter_at.ensures ∙ ap (λ rows. letter_of rows.codes c.args.kind c.args.word) c.self.view_is) ∙ is_some-letter_of c.args.self.now.codes c.args.kind c.args.word
