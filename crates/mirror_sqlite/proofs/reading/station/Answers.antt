use Rattle.std.proofs.Common.{◌≡◌, true, sym, ◌∙◌}
use Rattle.act_bodies.specs.Members.{is_station_code}
use Rattle.mirror_sqlite.proofs.Codes.{station_kept}
use Rattle.mirror_sqlite.proofs.reading.station.Goals as goal

pub returns-then-is_station_code-clause-shown : goal.returns-then-is_station_code-clause-shown
returns-then-is_station_code-clause-shown c =
    let is : is_station_code c.args.text.now ≡ true = sym c.is_station_code.ensures ∙ c.if-is_station_code.true in
    station_kept c.args.text.now c.new.result is c.new.ensures.short c.new.ensures.text
