use Rattle.comet_model.proofs.Findings.{found_longer}
use Rattle.comet_model.proofs.Legal.{legal_again, comets_again, answer_again}
use Rattle.act_model.specs.Deeds.{deeds}
use Rattle.comet_model.proofs.laws.longer.Goals as goal

pub returns-clause-legal : goal.returns-clause-legal
returns-clause-legal c = λ founder earlier later entries extends legal. legal_again founder founder (deeds earlier) (deeds later) (λ naming. found_longer c.below.ensures.designations c.below.ensures.acts_fit earlier later naming.object extends) entries legal

pub returns-clause-comets : goal.returns-clause-comets
returns-clause-comets c = λ founder earlier later entries extends legal. comets_again founder founder (deeds earlier) (deeds later) (λ naming. found_longer c.below.ensures.designations c.below.ensures.acts_fit earlier later naming.object extends) entries legal

pub returns-clause-answers : goal.returns-clause-answers
returns-clause-answers c = λ founder earlier later entry past extends legal. answer_again founder founder (deeds earlier) (deeds later) (λ naming. found_longer c.below.ensures.designations c.below.ensures.acts_fit earlier later naming.object extends) entry past legal
