use Rattle.comet_model.proofs.DiskFaults.{step_knows_no_disk, fault_rises, turn_doubts}
use Rattle.comet_model.proofs.laws.disk_faults_have_a_cause.Goals as goal

pub returns-clause-step : goal.returns-clause-step
returns-clause-step c = λ founder limit desk past after q reading doubt is. step_knows_no_disk founder limit desk past q reading doubt after is

pub returns-clause-turn : goal.returns-clause-turn
returns-clause-turn c = λ founder limit desk before after turn doubt is reply. fault_rises founder limit desk before after turn doubt is reply

pub returns-clause-doubt : goal.returns-clause-doubt
returns-clause-doubt c = λ founder limit desk before after turn reading is at reply. turn_doubts founder limit desk before after turn reading is at reply
