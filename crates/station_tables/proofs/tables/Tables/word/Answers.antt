use Rattle.std.proofs.Common.{is_some, ap, ◌∙◌}
use Rattle.station_tables.specs.Codes.{word_of}
use Rattle.station_tables.proofs.CodeLemmas.{is_some-word_of}
use Rattle.station_tables.proofs.tables.Tables.word.Goals as goal

pub returns-clause-found : goal.returns-clause-found
returns-clause-found c = ap is_some (c.word_at.ensures ∙ ap (λ rows. word_of rows.codes c.args.kind c.args.letter) c.self.view_is) ∙ is_some-word_of c.args.self.now.codes c.args.kind c.args.letter
