use Rattle.std.proofs.Common.{◌≡◌, ◌+◌, ◌-◌, ◌∙◌, sym, ap, arith}
use Rattle.std.specs.Prelude.{reverse, slice_get, option_copied}
use Rattle.std.proofs.lemmas.Grind.{common_steps}
use Rattle.std.proofs.lemmas.Option.{gets}
use Rattle.tracklet_file.specs.Numbering.{numbered}
use Rattle.tracklet_file.proofs.NumberingLemmas.{numbered_zero, numbered_at}
use Rattle.tracklet_file.proofs.searches.numbered.Goals as goal

pub returns-then-number-eq0 : goal.returns-then-number-eq0
returns-then-number-eq0 g c = sym (ap (numbered (reverse c.args.items.now)) c.if-number-eq0.true ∙ numbered_zero (reverse c.args.items.now))

pub returns : goal.returns
returns g c =
    let here : option_copied c.get.result ≡ slice_get c.args.items.now (c.args.number - 1) = grind (arith, common_steps, gets) in
    let number : (c.args.number - 1) + 1 ≡ c.args.number = omega arith in
    here ∙ sym (ap (numbered (reverse c.args.items.now)) (sym number) ∙ numbered_at c.args.items.now (c.args.number - 1))
