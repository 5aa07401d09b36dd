use Rattle.std.proofs.Common.{cond, length, sym, ap, ◌∙◌, true≢false}
use Rattle.std.proofs.lemmas.Int.{to_z-of_z}
use Rattle.std.specs.Prelude.{◌==◌}
use Rattle.station_tables.specs.declared.serving.Serving.TheVariants.{Outside, Serving as InService}
use Rattle.station_tables.proofs.StationLemmas.{serving_by-rows}
use Rattle.station_tables.proofs.stations.serving_by.Goals as goal

pub returns-then-any_holds : goal.returns-then-any_holds
returns-then-any_holds c =
    let fits = c.ranges.date in
    let held = simp to_z-of_z at c.any_holds.ensures in
    sym (serving_by-rows c.args.rows.now c.args.date (λ none. true≢false (sym (ap (λ rows. length rows == 0) none) ∙ sym c.is_empty.ensures ∙ c.if-is_empty.false))
    ∙ ap (λ b. cond b InService Outside) (sym held ∙ c.if-any_holds.true))

pub returns-else-any_holds : goal.returns-else-any_holds
returns-else-any_holds c =
    let fits = c.ranges.date in
    let held = simp to_z-of_z at c.any_holds.ensures in
    sym (serving_by-rows c.args.rows.now c.args.date (λ none. true≢false (sym (ap (λ rows. length rows == 0) none) ∙ sym c.is_empty.ensures ∙ c.if-is_empty.false))
    ∙ ap (λ b. cond b InService Outside) (sym held ∙ c.if-any_holds.false))
