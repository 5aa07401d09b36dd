use Rattle.std.proofs.Common.{ap, ◌∙◌}
use Rattle.serve_command.specs.Images.{WasAsked}
use Rattle.serve_command.proofs.KeptLemmas.{same_limit, serves_watched, was_between}
use Rattle.serve_command.proofs.WatchLemmas.{watched_during}
use Rattle.serve_command.proofs.watching.attend_watched.Goals as goal

pub returns : goal.returns
returns g c =
    let answered = c.attend_door-keeper.result.keeper.answered in
    let founder = ap (λ d. d.founder) c.close.ensures.desk ∙ c.attend_door-keeper.ensures.serves.grows.founder ∙ ap (λ w. w.desk.founder) c.new-watched.ensures in
    let limit = ap (λ d. d.limit) c.close.ensures.desk ∙ same_limit _ _ c.attend_door-keeper.ensures.serves.grows.limit ∙ ap (λ w. w.desk.limit) c.new-watched.ensures in
    record {
      serves = (
        answered,
        serves_watched _ g.D.Disk.moment g.D.Disk.faults _ _ _ _ _ _ c.args.desk c.close.result c.new-watched.result c.attend_door-keeper.result.keeper
            c.new-watched.ensures c.close.ensures.desk c.attend_door-keeper.ensures.serves,
        was_between g.D.Disk.moment g.D.Disk.since g.W.Opening.history g.W.Opening.moment g.W.Opening.images (WasAsked answered) c.args.desk c.close.result
            c.requires.history c.requires.moment (λ t image. (c.requires.images t image).1) founder limit answered c.close.ensures.passed,
        watched_during g.D.Disk.moment g.D.Disk.since g.W.Opening.history g.W.Opening.moment g.W.Opening.images (WasAsked answered) c.args.desk c.close.result
            c.requires.history c.requires.moment (λ t image. (c.requires.images t image).1) founder limit c.close.ensures.later c.close.ensures.images,
      );
      unasked = λ is. let same = c.attend_door-keeper.ensures.unasked is in (same.0, same.1);
    }
