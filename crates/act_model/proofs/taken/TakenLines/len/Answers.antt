use Rattle.std.proofs.Common.{List, Result, length, ap, arith}
use Rattle.obs_record.specs.declared.line.Line.{Line}
use Rattle.obs_record.specs.declared.rule.RuleCode.{RuleCode}
use Rattle.act_model.specs.declared.taken.Placing.{Placing}
use Rattle.act_model.specs.declared.taken.Taken.{Taken}
use Rattle.act_model.proofs.TakenWith.{as_many}
use Rattle.act_model.proofs.taken.TakenLines.len.Goals as goal

pub returns : goal.returns
returns c =
    omega (
      arith,
      c.min.ensures,
      as_many c.self.inside.lines c.self.inside.found,
      ap (λ (all : List Taken). length all) c.self.view_is,
      ap (λ (lines : List Line). length lines) c.as_slice.ensures,
      ap (λ (found : List (Result Placing RuleCode)). length found) c.as_slice-2.ensures,
    )
