use Rattle.std.proofs.Common.{◌≡◌, ◌∷◌, List, ap, sym, subst, ◌∙◌, arith}
use Rattle.std.specs.Prelude.{reverse, IfSome}
use Rattle.std.proofs.lemmas.Int.{ints}
use Rattle.obs_record.specs.declared.sighting.Sighting.{Sighting}
use Rattle.batch_rules.specs.PlaceTests.{AreUpTo}
use Rattle.batch_rules.specs.Earlier.{Finds, HasTimes, pointed_sightings}
use Rattle.batch_rules.proofs.Beside.{up_to_more}
use Rattle.batch_rules.proofs.Pointed.{pointed_pushed}
use Rattle.batch_rules.proofs.earlier.Earlier.push.Goals as goal

pub invariant_of-self-2 : goal.invariant_of-self-2
invariant_of-self-2 c =
    let earlier = reverse (pointed_sightings c.self.inside.passed.items) in
    let shape : reverse (pointed_sightings c.push.new.self.items) ≡ c.args.s.now ∷ earlier = ap (λ xs. reverse (pointed_sightings xs)) c.in_ok-push.ensures.items ∙ pointed_pushed c.self.inside.passed.items c.args.s in (
      subst (AreUpTo _) (sym shape) (omega (arith, ints), up_to_more c.self.inside.latest _ earlier (omega (arith, ints)) c.self.invariant.0),
      subst (λ (xs : List Sighting). IfSome c.note.new.times (λ times. HasTimes times xs)) (sym shape) (c.note.ensures.times earlier c.self.invariant.1),
      subst (λ (xs : List Sighting). IfSome c.note.new.index (λ index. Finds index xs)) (sym shape) (c.note.ensures.index earlier c.self.invariant.2),
    )
