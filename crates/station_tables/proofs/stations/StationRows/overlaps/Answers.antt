use Rattle.std.proofs.Common.{ap, ◌∙◌}
use Rattle.std.proofs.lemmas.Int.{to_z-of_z}
use Rattle.std.specs.List.{list_any}
use Rattle.station_tables.specs.Indexed.{shares_days}
use Rattle.station_tables.proofs.StationLemmas.{overlaps-code}
use Rattle.station_tables.proofs.stations.StationRows.overlaps.Goals as goal

pub returns : goal.returns
returns c =
    let first = c.ranges.from in
    let last = c.ranges.to in
    let found = simp to_z-of_z at c.any_shares.ensures in
    found ∙ ap (list_any (shares_days c.args.from c.args.to)) c.of_code.ensures ∙ overlaps-code c.args.self.now c.args.code c.args.from c.args.to
