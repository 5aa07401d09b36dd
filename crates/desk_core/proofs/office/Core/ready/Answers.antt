use Rattle.std.proofs.Common.{ap, ◌∙◌}
use Rattle.std.specs.Prelude.{Option, unwrap_or}
use Rattle.station_tables.specs.Rows.{TableRows}
use Rattle.act_model.specs.declared.entry.Entry.{Entry}
use Rattle.act_model.specs.Deeds.{deed_of, deeds}
use Rattle.act_model.specs.OfficeTables.{tables_of}
use Rattle.desk_core.proofs.Readying.{ready_at}
use Rattle.desk_core.proofs.office.Core.ready.Goals as goal

pub returns-clause-at : goal.returns-clause-at
returns-clause-at c =
    let past = c.args.self.now.history in
    ready_at past c.new.result c.args.deed
    (ap (λ (e : Entry). deed_of (deeds past) e) c.new.ensures.entry ∙ c.requires.deed)
    c.new.ensures.deed
    (c.new.ensures.answer ∙ c.in-Ok.ensures.answer)
    (ap (λ (tables : Option TableRows). unwrap_or tables (tables_of (deeds past))) c.new.ensures.tables ∙ c.in-Ok.ensures.tables)
    c.requires.fits
    c.provide.ensures.callers
