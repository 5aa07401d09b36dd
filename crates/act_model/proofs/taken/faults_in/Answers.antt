use Rattle.std.proofs.Common.{◌≡◌, ℕ, ◌+◌, ◌∷◌, ◌++◌, List, Option, Result, Ok, Err, drop, refl, sym, ap, ◌∙◌, append_assoc}
use Rattle.std.specs.Prelude.{option_to_list}
use Rattle.obs_record.specs.declared.rule.RuleCode.{RuleCode}
use Rattle.act_model.specs.declared.reply.Fault.{Fault}
use Rattle.act_model.specs.declared.taken.Placed.{Placed}
use Rattle.act_model.specs.declared.taken.Taken.{Taken}
use Rattle.act_model.specs.Taken.{fault_with, faults_in}
use Rattle.act_model.proofs.taken.faults_in.Goals as goal

-- the first line's fault comes first
first_fault : (line : ℕ) (found : Result Placed RuleCode) (rest : List Taken)
    → faults_in (record { line = line; found = found } ∷ rest) ≡ option_to_list (fault_with line found) ++ faults_in rest
first_fault line (Ok placed) rest = refl
first_fault line (Err rule) rest = refl

pub loop-place-preserved : goal.loop-place-preserved
loop-place-preserved c =
    let rest = drop (c.loop-place.place + 1) c.args.lines.now in
    ap (λ (faults : List Fault). faults ++ faults_in rest) (c.in_ok-push_fault.ensures ∙ ap (λ (fault : Option Fault). c.loop-place.faults ++ option_to_list fault) c.fault_in.ensures)
    ∙ append_assoc c.loop-place.faults (option_to_list (fault_with c.at.result.line c.at.result.found)) (faults_in rest)
    ∙ ap (λ (faults : List Fault). c.loop-place.faults ++ faults) (sym (first_fault c.at.result.line c.at.result.found rest))
    ∙ ap (λ (left : List Taken). c.loop-place.faults ++ faults_in left) (sym c.at.ensures.left)
    ∙ c.loop-place.invariant
