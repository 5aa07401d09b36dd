use Rattle.std.proofs.Common.{◌≡◌, ℕ, ◌+◌, ◌-◌, ◌<◌, ◌++◌, refl, ap, ◌∙◌, arith}
use Rattle.office_workload.specs.Generating.{number_after, number_at}
use Rattle.office_workload.specs.Workloads.{history_after}
use Rattle.office_workload.proofs.RunLemmas.{left_after, goes_on, stops, number_is}
use Rattle.office_workload.proofs.running.take_objects.Goals as goal

pub objects-init : goal.objects-init
unfolding number_at
objects-init c = record {
  goes = λ rest.
      let none : c.args.count ≡ c.args.count - 0 = omega arith in
      ap (λ (n : ℕ). history_after c.args.keeper.now.history (left_after c.args.seed 0 n ++ rest)) none;
  number = refl;
  founder = c.requires.founder;
}

pub returns-in-Err-clause-refused : goal.returns-in-Err-clause-refused
returns-in-Err-clause-refused c =
    let more : c.objects.before < c.args.count = omega (arith, c.objects-test.true) in
    stops c.args.seed c.args.count c.args.keeper.now.history c.objects.keeper.history c.objects.before c.objects.invariant.goes more c.number_after-x.result
    (c.number_after-x.ensures ∙ ap number_after c.objects.invariant.number) c.in-Err.refusal c.in-Err.ensures.refused

pub objects-preserved : goal.objects-preserved
objects-preserved c =
    let more : c.objects.before < c.args.count = omega (arith, c.objects-test.true) in
    let next : c.number_after-x.result ≡ number_after (number_at c.args.seed c.objects.before) = c.number_after-x.ensures ∙ ap number_after c.objects.invariant.number in
    record {
      goes = goes_on c.args.seed c.args.count c.args.keeper.now.history c.objects.keeper.history c.objects.before c.objects.invariant.goes more c.number_after-x.result next c.take_object.new.keeper.history c.in-Ok.ensures.taken;
      number = number_is c.args.seed c.args.count c.args.keeper.now.history c.objects.keeper.history c.objects.before c.objects.invariant.goes more c.number_after-x.result next;
      founder = c.take_object.ensures.founder;
    }
