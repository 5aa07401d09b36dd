use Rattle.std.proofs.Common.{◌∷◌, [], rules, arith}
use Rattle.obs_record.specs.declared.rule.RuleCode.TheVariants.{B9}
use Rattle.act_model.specs.Rows.{first_row}
use Rattle.act_model.specs.BatchRules.{stands_already, stands_elsewhere, is_of_two_objects}
use Rattle.batch_rules.proofs.Beside.{beside_rows}
use Rattle.batch_rules.proofs.rules.line_fault.Goals as goal

pub returns-in-Some-clause-rule : goal.returns-in-Some-clause-rule
returns-in-Some-clause-rule g c earlier is =
    let office = g.V.Known.office c.args.known.now in
    let told = beside_rows (stands_already office earlier c.args.s.now) (stands_elsewhere earlier c.args.s.now) c.broken_beside.result
    (first_row ((is_of_two_objects office c.args.s.now, B9) ∷ [])) c.in-Some.rule (c.broken_beside.ensures office earlier c.args.s.now c.requires is) c.in-Some.is in
    first_of (search (rules, told), grind (arith, told))
