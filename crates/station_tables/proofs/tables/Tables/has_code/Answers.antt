use Rattle.std.proofs.Common.{true, refl, sym, ◌∙◌}
use Rattle.station_tables.proofs.CodeLemmas.{has_code-found}
use Rattle.station_tables.proofs.tables.Tables.has_code.Goals as goal

pub returns-then-is_some : goal.returns-then-is_some
returns-then-is_some c =
    let found = sym c.if-is_some.true ∙ c.is_some.ensures ∙ c.word.ensures.found in
    c.if-is_some.true ∙ sym (has_code-found c.args.self.now.codes c.args.kind c.args.letter c.args.word true _ found refl)

pub returns-else-is_some : goal.returns-else-is_some
returns-else-is_some c =
    let none = sym c.if-is_some.false ∙ c.is_some.ensures ∙ c.word.ensures.found in
    let found = c.is_some-else-is_some.ensures ∙ c.letter.ensures.found in
    sym (has_code-found c.args.self.now.codes c.args.kind c.args.letter c.args.word _ _ none found)
