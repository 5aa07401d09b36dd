use Rattle.station_tables.proofs.CodeLemmas.{still_paired}
use Rattle.station_tables.proofs.tables.Tables.with_code.Goals as goal

pub invariant_of-result : goal.invariant_of-result
invariant_of-result c =
    still_paired c.self.inside.words.entries _ c.self.inside.letters.entries _ (record { kind = c.args.kind; letter = c.args.letter }, c.args.word)
    c.self.invariant c.in_ok-with_word.ensures c.in_ok-with_letter.ensures
