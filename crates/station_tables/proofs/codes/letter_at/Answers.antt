use Rattle.std.proofs.Common.{ap, ◌∙◌}
use Rattle.std.specs.Map.{lookup}
use Rattle.station_tables.specs.contracts.keys.WordKeyPartialEq.TheImpl as word_keys
use Rattle.station_tables.specs.Indexed.{word_key}
use Rattle.station_tables.proofs.CodeLemmas.{lookup-letter}
use Rattle.station_tables.proofs.codes.letter_at.Goals as goal

pub returns : goal.returns
returns c =
    c.copied.ensures ∙ c.get.ensures.value
    ∙ ap (λ key. lookup ((word_keys.ghosts).eq key) c.args.letters.now.entries) c.word_key.ensures
    ∙ ap (lookup ((word_keys.ghosts).eq (word_key c.args.kind c.args.word))) c.requires
    ∙ lookup-letter c.args.words.now.entries c.args.kind c.args.word
