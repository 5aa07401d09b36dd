use Rattle.std.proofs.Common.{ap, ◌∙◌}
use Rattle.std.proofs.lemmas.Int.{to_z-of_z}
use Rattle.station_tables.specs.Stations.{with_station_row}
use Rattle.station_tables.proofs.StationLemmas.{rows_of-station}
use Rattle.station_tables.proofs.tables.Tables.with_station.Goals as goal

pub returns : goal.returns
returns c =
    let first = c.ranges.from in
    let last = c.ranges.to in
    let longer = simp to_z-of_z at c.in_ok-with_row.ensures in
    rows_of-station c.self.inside.stations _ c.self.inside.words.entries _ (record { code = c.args.code; from = c.args.from; to = c.args.to }) longer c.in_ok-words_copied.ensures
    ∙ ap (λ rows. with_station_row rows (record { code = c.args.code; from = c.args.from; to = c.args.to })) c.self.view_is
