use Rattle.std.proofs.Common.{◌≡◌, [], ◌∷◌, ◌++◌, filter, sym, ap, ◌∙◌, subst}
use Rattle.station_tables.specs.Indexed.{has_code, IsByCode}
use Rattle.station_tables.proofs.StationLemmas.{with_one}
use Rattle.station_tables.proofs.stations.StationRows.with_row.Goals as goal

pub invariant_of-longer : goal.invariant_of-longer
invariant_of-longer c =
    let rows = c.longer.inside.rows.items in
    let same : rows ≡ c.args.self.now = c.longer.view_is ∙ c.in_ok-longer.ensures in
    let kept = c.in_ok-of_code.ensures.items ∙ c.of_code.ensures ∙ ap (filter (has_code c.args.row.code)) (sym same) in
    let more = c.in_ok-push.ensures.items ∙ ap (λ before. before ++ c.args.row ∷ []) kept in
    subst (λ grown. IsByCode c.insert.new.self.entries grown) (sym c.in_ok-push-2.ensures.items)
    (with_one c.longer.inside.by_code.entries c.insert.new.self.entries rows _ c.args.row c.longer.invariant more
    (λ code. c.in_ok-insert.ensures.updates.0 (record { code = code })))
