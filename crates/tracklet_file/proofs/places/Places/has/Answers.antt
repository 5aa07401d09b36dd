use Rattle.std.proofs.Common.{◌≡◌, ℕ, Bool, false, true, Option, rules, Some, None, take, refl, ap, sym, subst, ◌∙◌}
use Rattle.std.specs.Prelude.{◌||◌, IfSome, IfNone, is_some}
use Rattle.std.specs.List.{list_any}
use Rattle.tracklet_file.specs.Places.{counts_at, mark_of, KeptPlaces, IsIndexed}
use Rattle.tracklet_file.proofs.IndexLemmas.{any_parts, rest_is, none_marked, some_counts}
use Rattle.tracklet_file.proofs.places.Places.has.Goals as goal

or_true : (a b : Bool) → b ≡ true → true ≡ (a || b)
or_true true b is = refl
or_true false b is = sym is

neither : (a b : Bool) → a ≡ false → b ≡ false → (a || b) ≡ false
neither true b none other = none
neither false b none other = other

-- what is found by its mark is told
told : (r : Option ℕ) (found answer : Bool) (W P : ℕ → Type 0) (N : Type 0) → found ≡ is_some r → IfSome r W → IfSome r P → IfNone r N → ((place : ℕ) → W place → P place → answer ≡ true) → (N → answer ≡ false) → found ≡ answer
told None found answer W P N is within passes none some neither = is ∙ sym (neither none)
told (Some place) found answer W P N is within passes none some neither = is ∙ sym (some place within passes)

pub returns-then-is_waiting : goal.returns-then-is_waiting
returns-then-is_waiting c =
    let p = counts_at c.args.key.now in
    or_true _ _ (sym (c.is_waiting.ensures ∙ ap (list_any p) (rest_is p c.len.result c.args.filed.now)) ∙ c.if-is_waiting.true) ∙ sym (any_parts p c.len.result c.args.filed.now)

pub returns : goal.returns
returns c =
    let p = counts_at c.args.key.now in
    let was = subst (λ (v : KeptPlaces). IsIndexed c.args.filed.now v) (sym c.self.view_is) c.requires in
    let key : c.mark_of.result ≡ mark_of c.args.key.now = c.mark_of.ensures in
    told c.find.result c.is_some.result (list_any p c.args.filed.now) _ _ _ c.is_some.ensures c.find.ensures.within c.find.ensures.found c.find.ensures.none
    (λ place within passes. some_counts c.args.filed.now _ was c.args.key.now place within (λ d. search rules))
    (λ none.
    let first = none_marked c.args.filed.now _ was c.args.key.now (λ place d within marked. let fails = none place within (marked ∙ sym key) in search rules) in
    any_parts p c.len.result c.args.filed.now ∙ neither _ _ (ap (λ (n : ℕ). list_any p (take n c.args.filed.now)) c.len.ensures ∙ first) (sym (c.is_waiting.ensures ∙ ap (list_any p) (rest_is p c.len.result c.args.filed.now)) ∙ c.if-is_waiting.false))
