use Rattle.std.proofs.Common.{◌∙◌}
use Rattle.station_tables.proofs.CodeLemmas.{lookup-word}
use Rattle.station_tables.proofs.codes.word_at.Goals as goal

pub returns : goal.returns
returns c = c.copied.ensures ∙ c.get.ensures.value ∙ lookup-word c.args.words.now.entries c.args.kind c.args.letter
