use Rattle.std.proofs.Common.{map, ap, ◌∙◌}
use Rattle.std.proofs.lemmas.Int.{to_z-of_z}
use Rattle.station_tables.specs.Stations.{serving_by}
use Rattle.station_tables.specs.Indexed.{station_row}
use Rattle.station_tables.proofs.StationLemmas.{serving_of-code, serving_of-none}
use Rattle.station_tables.proofs.stations.StationRows.serving.Goals as goal

pub returns-in-Some : goal.returns-in-Some
returns-in-Some c =
    let fits = c.ranges.date in
    let stands = simp to_z-of_z at c.serving_by.ensures in
    let is_code = c.in-Some.ensures.some in
    stands ∙ ap (λ rows. serving_by (map station_row rows) c.args.date) c.of_code.ensures
    ∙ serving_of-code c.args.self.now c.args.code c.in-Some.key.code c.args.date is_code.0 is_code.1

pub returns-in-None : goal.returns-in-None
returns-in-None c =
    serving_of-none (map station_row c.args.self.now) c.args.code c.args.date c.in-None.ensures.none
