use Rattle.std.proofs.Common.{ℕ, ◌∷◌, drop, sym, ap, ◌∙◌, add-one}
use Rattle.catalogue_export.proofs.WalkLemmas.{left_from}
use Rattle.catalogue_export.proofs.walk.Walk.at_object.Goals as goal

pub enter_object-requires : goal.enter_object-requires
enter_object-requires g c =
    let names = c.args.self.now.principals in
    (c.args.at, c.requires, left_from names c.args.at c.in-Some.p.now (sym c.in-Some.ensures.value) ∙ ap (λ (m : ℕ). c.in-Some.p.now ∷ drop m names) (sym (add-one c.args.at)))
