use mir.Val.{SFits}
use Rattle.std.proofs.Common.{rules, ◌≡◌, ◌<◌, w64, to_z, of_z, ◌<ℤ◌, ◌≤ℤ◌, ◌-◌, ◌++◌, ◌∷◌, [], ℤ, ℕ, List, true, take, drop, map, length, ap, sym, subst, ◌∙◌, arith}
use Rattle.std.specs.Prelude.{int_lt}
use mathlib.Core.Bool.{true≢false}
use Rattle.std.proofs.lemmas.Int.{ints, to_z-of_z}
use Rattle.tracklet_file.specs.declared.observation.Observation.{Observation}
use Rattle.tracklet_file.specs.Places.{mark_in, time_of, KeptPlaces, IsIndexed}
use Rattle.tracklet_file.proofs.IndexLemmas.{rest_is, filed_waits, filed_all}
use Rattle.tracklet_file.proofs.places.Places.add.Goals as goal
use Rattle.tracklet_file.proofs.places.Places.add.Goals.{then-self, else-self}

later_told : (x y x' y' : ℤ) → x' ≡ x → y' ≡ y → int_lt x' y' ≡ true → x <ℤ y
later_told x y x' y' first second told =
    let less : x' <ℤ y' = omega (arith, ints) in
    subst (λ (t : ℤ). t <ℤ y) first (subst (λ (t : ℤ). x' <ℤ t) second less)

pub returns-then-self-2-clause-filed : goal.returns-then-self-2-clause-filed
returns-then-self-2-clause-filed c =
    let was = subst (λ (v : KeptPlaces). IsIndexed c.args.filed.now v) (sym c.self.view_is) c.requires.filed in
    let room : 0 < c.self.inside.room = omega (arith, ap (λ (v : KeptPlaces). v.room) c.self.view_is, c.requires.room) in
    let fits : SFits w64 c.max-self-inside.result = search rules in
    let latest : to_z w64 (of_z w64 c.self.inside.latest) ≡ c.self.inside.latest = to_z-of_z w64 c.self.inside.latest (search rules) in
    let low : c.self.inside.latest ≤ℤ c.max-self-inside.result = subst (λ (t : ℤ). t ≤ℤ c.max-self-inside.result) latest c.max-self-inside.ensures.self_bound in
    let ns : to_z w64 (of_z w64 c.ns-time.result) ≡ time_of c.args.newest.now = to_z-of_z w64 c.ns-time.result (search rules) ∙ c.ns-time.ensures.value in
    let own : time_of c.args.newest.now ≤ℤ c.max-self-inside.result = subst (λ (t : ℤ). t ≤ℤ c.max-self-inside.result) ns c.max-self-inside.ensures.other_bound in
    let later : c.if-self.self ≡ true → (c.self.inside.ascends ≡ true) × (c.self.inside.latest <ℤ time_of c.args.newest.now) = λ told. elim c.if-self.branch [
      | then-self w ↦ (w.if-self.true, later_told _ _ _ _ latest ns (sym w.self-is ∙ told))
      | else-self w ↦ absurd (true≢false (sym told ∙ w.self-is ∙ w.if-self.false))
    ] in
    subst (λ (t : ℤ). IsIndexed (c.args.filed.now ++ c.args.newest.now ∷ []) (record { marks = c.self.inside.index.marks; room = c.self.inside.room - 1; spare = c.self.inside.index.room; latest = t; ascends = c.if-self.self }))
    (sym (to_z-of_z w64 c.max-self-inside.result fits)) (filed_waits c.args.filed.now _ was c.args.newest.now room c.max-self-inside.result low own c.if-self.self later)

pub returns-clause-filed : goal.returns-clause-filed
returns-clause-filed c =
    let was = subst (λ (v : KeptPlaces). IsIndexed c.args.filed.now v) (sym c.self.view_is) c.requires.filed in
    let room : 0 < c.self.inside.room = omega (arith, ap (λ (v : KeptPlaces). v.room) c.self.view_is, c.requires.room) in
    let fits : SFits w64 c.max-self-inside.result = search rules in
    let latest : to_z w64 (of_z w64 c.self.inside.latest) ≡ c.self.inside.latest = to_z-of_z w64 c.self.inside.latest (search rules) in
    let low : c.self.inside.latest ≤ℤ c.max-self-inside.result = subst (λ (t : ℤ). t ≤ℤ c.max-self-inside.result) latest c.max-self-inside.ensures.self_bound in
    let ns : to_z w64 (of_z w64 c.ns-time.result) ≡ time_of c.args.newest.now = to_z-of_z w64 c.ns-time.result (search rules) ∙ c.ns-time.ensures.value in
    let own : time_of c.args.newest.now ≤ℤ c.max-self-inside.result = subst (λ (t : ℤ). t ≤ℤ c.max-self-inside.result) ns c.max-self-inside.ensures.other_bound in
    let rest : take (length c.args.filed.now - c.len.result) (drop c.len.result c.args.filed.now) ≡ drop (length c.self.inside.index.marks) c.args.filed.now =
    rest_is (λ (o : Observation). o.live) c.len.result c.args.filed.now ∙ ap (λ (n : ℕ). drop n c.args.filed.now) c.len.ensures in
    subst (λ (t : ℤ). IsIndexed (c.args.filed.now ++ c.args.newest.now ∷ []) (record { marks = c.enter.new.index.marks; room = c.self.inside.room - 1; spare = c.enter.new.index.room; latest = t; ascends = true }))
    (sym (to_z-of_z w64 c.max-self-inside.result fits)) (filed_all c.args.filed.now _ was c.args.newest.now room c.max-self-inside.result low own c.enter.new.index.marks c.enter.new.index.room
    (c.enter.ensures.marks ∙ ap (λ (ms : List ℕ). ms ++ mark_in c.args.newest.now ∷ []) (c.mark_all.ensures.marks ∙ ap (λ (os : List Observation). c.self.inside.index.marks ++ map mark_in os) rest))
    (omega (arith, c.enter.ensures.room, c.mark_all.ensures.room, ap (λ (os : List Observation). length os) rest)))
