use Rattle.std.proofs.Common.{Bool, arith}
use Rattle.std.specs.Prelude.{◌&&◌}
use Rattle.packed_names.specs.declared.name.Designation.{Designation}
use Rattle.act_model.specs.Designations.{links_of, is_principal}
use Rattle.object_rules.specs.Numbering.{is_eligible_after, eligible_among}
use Rattle.object_rules.proofs.NumberingLemmas.{walked, walked_within}
use Rattle.object_rules.proofs.numbering.first_eligible.Goals as goal

pub loop-place-preserved : goal.loop-place-preserved
loop-place-preserved g c =
    let past = g.L.Ledger.deeds c.args.office.now in
    let test : Designation → Bool = λ d. is_principal (links_of past) d && is_eligible_after past d in
    record {
      within = walked_within test c.in-Some.d c.loop-place.found c.push_eligible.new.found c.args.most c.in_ok-push_eligible.ensures c.loop-place.invariant.within (λ same. omega (arith, same));
      all =
          walked test c.args.open.now.items c.loop-place.place c.in-Some.d c.loop-place.found c.push_eligible.new.found (eligible_among past c.args.open.now.items) c.in-Some.ensures (omega arith) c.in_ok-push_eligible.ensures
          c.loop-place.invariant.all;
    }
