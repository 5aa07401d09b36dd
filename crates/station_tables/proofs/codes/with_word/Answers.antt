use Rattle.std.proofs.Common.{◌≡◌, None, [], ◌∷◌, ◌++◌, map, ap, ◌∙◌}
use Rattle.std.specs.Map.{lookup}
use Rattle.indexmap.specs.IndexMap.{get}
use Rattle.indexmap.proofs.CallerLemmas.{insert_entry-new}
use Rattle.station_tables.specs.contracts.keys.LetterKeyPartialEq.TheImpl as letter_keys
use Rattle.station_tables.specs.declared.keys.LetterKey.{LetterKey}
use Rattle.station_tables.specs.Indexed.{code_row}
use Rattle.station_tables.proofs.CodeLemmas.{lookup-word, word_of-apart}
use Rattle.station_tables.proofs.codes.with_word.Goals as goal

pub returns : goal.returns
returns c =
    let key : LetterKey = record { kind = c.args.kind; letter = c.args.letter } in
    let entries = c.args.words.now.entries in
    let same = c.in_ok-longer.ensures in
    let absent : get (letter_keys.ghosts).eq c.in_ok-longer.longer key ≡ None =
    ap (lookup ((letter_keys.ghosts).eq key)) same ∙ lookup-word entries c.args.kind c.args.letter ∙ word_of-apart (map code_row entries) c.args.kind c.args.letter c.args.word c.requires in
    c.in_ok-insert.ensures.entries ∙ insert_entry-new (letter_keys.ghosts).eq c.in_ok-longer.longer key c.args.word absent ∙ ap (λ es. es ++ (key, c.args.word) ∷ []) same
