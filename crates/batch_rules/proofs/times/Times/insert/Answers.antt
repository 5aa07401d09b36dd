use mir.Val.{SFits}
use Rattle.std.proofs.Common.{rules, ◌≡◌, ℤ, Bool, ◌++◌, ◌∷◌, [], w64, to_z, of_z, ap, ◌∙◌}
use Rattle.std.specs.Prelude.{◌||◌}
use Rattle.std.specs.List.{list_any}
use Rattle.std.specs.Ordering.{int_eq}
use Rattle.std.proofs.lemmas.Int.{to_z-of_z}
use Rattle.batch_rules.proofs.Any.{any_push}
use Rattle.batch_rules.proofs.times.Times.insert.Goals as goal

pub returns : goal.returns
returns c earlier has =
    let times = c.self.inside.times.items in
    let fits : SFits w64 c.ns.result = search rules in
    let own : to_z w64 (of_z w64 c.ns.result) ≡ c.args.s.now.time = to_z-of_z w64 c.ns.result fits ∙ c.ns.ensures.value in
    let pushed : c.push.new.self.items ≡ times ++ c.args.s.now.time ∷ [] = c.in_ok-push.ensures.items ∙ ap (λ (t : ℤ). times ++ t ∷ []) own in
    record {
      at = λ time.
          ap (list_any (λ t. int_eq t time)) pushed ∙ any_push (λ t. int_eq t time) times c.args.s.now.time
          ∙ ap (λ (b : Bool). int_eq c.args.s.now.time time || b) (ap (list_any (λ t. int_eq t time)) c.self.view_is ∙ has.at time);
    }
