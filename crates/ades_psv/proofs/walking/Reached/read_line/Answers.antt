use Rattle.std.proofs.Common.{◌+◌}
use Rattle.std.specs.Prelude.{IfOk}
use Rattle.std.proofs.lemmas.List.Elements.{All-push}
use Rattle.obs_record.specs.declared.line.Line.{Line}
use Rattle.obs_record.specs.Sighting.{IsSighting}
use Rattle.ades_psv.proofs.walking.Reached.read_line.Goals as goal

pub returns-in_ok-push-in-Data-clause-range : goal.returns-in_ok-push-in-Data-clause-range
returns-in_ok-push-in-Data-clause-range c = λ range.
    let line : Line = record { number = c.args.self.now.count + 1; read = c.read_fields-read.result } in
    rw c.in_ok-push-in-Data.ensures.ok (All-push (λ (l : Line). IfOk l.read IsSighting) c.args.self.now.found line range c.read_fields-read.ensures.range)
