use Rattle.std.proofs.Common.{rules, ◌≡◌, [], ◌∷◌, ◌++◌, ap, sym, ◌∙◌}
use Rattle.comet_model.specs.Translation.{translated_part, translated_line}
use Rattle.comet_model.proofs.Lines.{written_on}
use Rattle.comet_model.proofs.translation.translate.Goals as goal

pub parts-preserved : goal.parts-preserved
parts-preserved g c =
    let comets = g.N.CometNames.comets c.args.names.now in
    let pushed : c.push.new.self ≡ (c.parts.out ++ translated_part comets c.in-Some.part.now) ++ 10 ∷ [] = search rules in
    written_on comets c.parts.out c.push.new.self c.in-Some.part.now c.parts.left.now c.in-Some.after.now _ (c.in-Some.ensures.part comets) c.parts.invariant pushed

pub returns : goal.returns
returns g c =
    let comets = g.N.CometNames.comets c.args.names.now in
    let pushed : c.push_line.new.out ≡ c.parts.out ++ translated_line comets c.parts.left.now = search rules in
    pushed ∙ ap (λ text. c.parts.out ++ text) (sym (c.in_default.ensures.last comets)) ∙ c.parts.invariant
