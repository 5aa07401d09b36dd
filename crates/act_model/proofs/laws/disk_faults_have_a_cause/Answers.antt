use Rattle.act_model.proofs.DiskFaults.{step_knows_no_disk, fault_rises, turn_doubts}
use Rattle.act_model.proofs.laws.disk_faults_have_a_cause.Goals as goal

pub returns-clause-step : goal.returns-clause-step
returns-clause-step c = λ founder limit past after q reading doubt is. step_knows_no_disk founder limit past q reading doubt after is

pub returns-clause-turn : goal.returns-clause-turn
returns-clause-turn c = λ founder limit before after turn doubt is reply. fault_rises founder limit before after turn doubt is reply

pub returns-clause-doubt : goal.returns-clause-doubt
returns-clause-doubt c = λ founder limit before after turn reading is at reply. turn_doubts founder limit before after turn reading is at reply
