use Rattle.std.proofs.Common.{◌≡◌, ℕ, ◌<◌, ℤ, Bool, false, true, Option, Some, None, rules, List, length, get_or, ap, sym, ◌∙◌, arith}
use Rattle.std.specs.Prelude.{IfSome, IfNone, is_some}
use Rattle.std.specs.List.{list_any}
use Rattle.std.specs.Ordering.{int_eq}
use Rattle.std.proofs.lemmas.Bool.Decides.{Decides-int_eq}
use Rattle.std.proofs.lemmas.List.{length-map}
use Rattle.std.proofs.lemmas.List.Folds.{list_any_at}
use Rattle.batch_rules.specs.Marks.{time_mark}
use Rattle.batch_rules.proofs.Marked.{none_with_mark}
use Rattle.batch_rules.proofs.times.Times.has.Goals as goal

-- what is found by its mark is told
told : (r : Option ℕ) (found answer : Bool) (W P : ℕ → Type 0) (N : Type 0) → found ≡ is_some r → IfSome r W → IfSome r P → IfNone r N → ((place : ℕ) → W place → P place → answer ≡ true) → (N → answer ≡ false) → found ≡ answer
told None found answer W P N is within passes none some neither = is ∙ sym (neither none)
told (Some place) found answer W P N is within passes none some neither = is ∙ sym (some place within passes)

pub returns : goal.returns
returns c earlier has =
    let time = c.args.time in
    let times = c.self.inside.times.items in
    let p : ℤ → Bool = λ own. int_eq own time in
    let many : length c.self.inside.index.marks ≡ length times = ap (λ (ms : List ℕ). length ms) c.self.invariant ∙ length-map times time_mark in
    told c.find.result c.is_some.result (list_any p times) _ _ _ c.is_some.ensures c.find.ensures.within c.find.ensures.found c.find.ensures.none
    (λ place within passes.
    let there : place < length times = omega (arith, within, many) in
    let same : p (get_or times place time) ≡ true = search rules in
    list_any_at p times place time there same)
    (λ none. none_with_mark p time_mark (time_mark time) times c.self.inside.index.marks c.self.invariant
    (λ own same. ap time_mark ((Decides-int_eq own time).0 same))
    (λ place within marked d.
    let fails = none place (omega (arith, within, many)) (marked ∙ sym c.mark_of.ensures) in
    search rules))
    ∙ ap (list_any p) c.self.view_is ∙ has.at time
