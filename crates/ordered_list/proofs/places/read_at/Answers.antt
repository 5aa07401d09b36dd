use Rattle.std.proofs.Common.{◌≡◌, ◌∙◌, arith}
use Rattle.std.specs.Prelude.{slice_get, option_copied}
use Rattle.std.proofs.lemmas.Grind.{common_steps}
use Rattle.std.proofs.lemmas.Option.{gets}
use Rattle.ordered_list.proofs.places.read_at.Goals as goal

pub returns : goal.returns
returns g c =
    let here : option_copied c.get.result ≡ slice_get c.args.items.now c.args.place = grind (arith, common_steps, gets) in
    c.copied.ensures ∙ here
