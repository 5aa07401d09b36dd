use Rattle.std.proofs.Common.{rules, ◌≡◌, refl, ap}
use Rattle.serve_command.specs.Gathering.{door_of}
use Rattle.serve_command.proofs.Closing.{serves_none_from, serves_left}
use Rattle.serve_command.proofs.keeping.attend_door.Goals as goal

pub returns-in_default : goal.returns-in_default
returns-in_default g c =
    record {
      serves = serves_none_from _ g.V.Keeper.office _ c.args.keeper c.args.keeper _ _ _ refl c.no_ends.ensures c.requires.settled;
      unasked = λ is. (refl, refl, refl, c.no_ends.ensures);
    }

pub returns-in-Err : goal.returns-in-Err
returns-in-Err g c =
    record {
      serves = serves_none_from _ g.V.Keeper.office _ c.args.keeper c.in-Err.keeper _ _ _ c.in-Err.ensures.back c.no_ends-in-Err.ensures c.requires.settled;
      unasked = λ is. (refl, refl, c.in-Err.ensures.back, c.no_ends-in-Err.ensures);
    }

pub returns : goal.returns
returns g c =
    let same : c.door-1.given.0 ≡ c.attend_links-gathered.result.gate.door.now = search rules in
    record {
      serves = serves_left _ c.calls_are_true.ensures.later c.places_stay_in_order.ensures _ _ _ _ _ _ _ _ _
          (record { to_come = c.another-other.ensures.same; last = c.another-other.ensures.last })
          c.in-Ok-new.ensures.pass.1 c.in-Ok-new.ensures.lock c.in-Ok.ensures.items c.turned_round.ensures
          (ap (door_of g.G.Door.links g.G.Door.faults) same) c.attend_links-gathered.ensures.gathers c.close.ensures;
      unasked = λ is. absurd cc;
    }
