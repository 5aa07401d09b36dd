use Rattle.std.proofs.Common.{◌≡◌, None, [], ◌∷◌, ◌++◌, map, ap, ◌∙◌}
use Rattle.std.specs.Map.{lookup}
use Rattle.indexmap.specs.IndexMap.{get, insert_entry}
use Rattle.indexmap.proofs.CallerLemmas.{insert_entry-new}
use Rattle.station_tables.specs.contracts.keys.WordKeyPartialEq.TheImpl as word_keys
use Rattle.station_tables.specs.declared.keys.WordKey.{WordKey}
use Rattle.station_tables.specs.Indexed.{code_row, word_key}
use Rattle.station_tables.proofs.CodeLemmas.{lookup-letter, letter_of-apart}
use Rattle.station_tables.proofs.codes.with_letter.Goals as goal

pub returns : goal.returns
returns c =
    let key : WordKey = word_key c.args.kind c.args.word in
    let entries = c.args.words.now.entries in
    let same = c.in_ok-longer.ensures in
    let absent : get (word_keys.ghosts).eq c.in_ok-longer.longer key ≡ None =
    ap (lookup ((word_keys.ghosts).eq key)) same ∙ ap (lookup ((word_keys.ghosts).eq key)) c.requires.paired ∙ lookup-letter entries c.args.kind c.args.word
    ∙ letter_of-apart (map code_row entries) c.args.kind c.args.letter c.args.word c.requires.apart in
    c.in_ok-insert.ensures.entries ∙ ap (λ k. insert_entry (word_keys.ghosts).eq c.in_ok-longer.longer.entries k c.args.letter) c.word_key.ensures
    ∙ insert_entry-new (word_keys.ghosts).eq c.in_ok-longer.longer key c.args.letter absent ∙ ap (λ es. es ++ (key, c.args.letter) ∷ []) same
