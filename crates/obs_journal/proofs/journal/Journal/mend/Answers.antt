use Rattle.std.proofs.Common.{◌≡◌, ◌-◌, ◌↔◌, get_or, Some, refl, sym, ◌∙◌}
use Rattle.std.specs.Prelude.{IsTrue, Bool, true, false}
use Rattle.obs_journal.specs.declared.journal.Reached.{Reached}
use Rattle.obs_journal.specs.declared.format.Format.TheVariants.{Chained}
use Rattle.obs_journal.proofs.Appends.{gate_is, left_out_where_closed, added_where_open}
use Rattle.obs_journal.proofs.Steps.{at_known}
use Rattle.obs_journal.proofs.Chains.{at_gate}
use Rattle.obs_journal.proofs.journal.Journal.mend.Goals as goal

after_is : (after reached : Reached) → Some after ≡ Some reached → after ≡ reached
after_is after reached e = cc

same_bool : (b : Bool) → IsTrue b → b ≡ false → ⊥
same_bool b t f = cc (t, f)

is_true : (b : Bool) → b ≡ true → IsTrue b
is_true b t = t

pub returns-then-not-is_open-clause-dropped : goal.returns-then-not-is_open-clause-dropped
returns-then-not-is_open-clause-dropped g c = rw (← c.self.view_is) (λ _ ps p h. record {
  images = λ image now.
      let is = c.in_ok-is_open.ensures.safe image now in
      let doubtful = h.images image (g.met.D.Disk.as_read c.self.inside.disk image is) in
      let test = at_known _ (λ file. IsTrue c.in_ok-is_open.is_open ↔ (get_or file (c.self.inside.reached.position - 1) 0 ≡ 1)) image c.in_ok-is_open.ensures.given is in
      left_out_where_closed Chained ps p image doubtful (λ shut. let t = test.1 (gate_is Chained ps p c.self.inside.reached.position image (at_gate c.self.inside.reached ps h.reached) doubtful ∙ shut) in let f = c.if-not-is_open.true in absurd (same_bool _ t f));
  reached = h.reached;
  in_doubt = refl;
})

pub returns-clause-added : goal.returns-clause-added
returns-clause-added g c = rw (← c.self.view_is) (λ _ ps p h. record {
  images = λ image now.
      let is = c.in_ok-is_open.ensures.safe image now in
      let doubtful = h.images image (g.met.D.Disk.as_read c.self.inside.disk image is) in
      let test = at_known _ (λ file. IsTrue c.in_ok-is_open.is_open ↔ (get_or file (c.self.inside.reached.position - 1) 0 ≡ 1)) image c.in_ok-is_open.ensures.given is in
      let f = c.if-not-is_open.false in
      added_where_open Chained ps p image doubtful (sym (gate_is Chained ps p c.self.inside.reached.position image (at_gate c.self.inside.reached ps h.reached) doubtful) ∙ test.0 (is_true _ f));
  reached = after_is _ _ (sym c.in-Some.is ∙ h.in_doubt);
  in_doubt = refl;
})
