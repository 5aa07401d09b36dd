use Rattle.comet_model.proofs.Worlds.{world_legal, world_once, world_acknowledged, world_again, world_extends}
use Rattle.comet_model.proofs.laws.each_once.Goals as goal

pub returns-clause-legal : goal.returns-clause-legal
returns-clause-legal c = λ founder limit history events after world. world_legal founder limit c.below.ensures.designations c.below.ensures.acts_fit history events after world

pub returns-clause-once : goal.returns-clause-once
returns-clause-once c = λ founder limit history events after world. world_once founder limit c.below.ensures.designations c.below.ensures.acts_fit history events after world

pub returns-clause-acknowledged : goal.returns-clause-acknowledged
returns-clause-acknowledged c = λ founder limit history events after world. world_acknowledged founder limit c.below.ensures.designations c.below.ensures.acts_fit history events after world

pub returns-clause-again : goal.returns-clause-again
returns-clause-again c = λ founder limit history events after world. world_again founder limit c.below.ensures.designations c.below.ensures.acts_fit history events after world

pub returns-clause-grows : goal.returns-clause-grows
returns-clause-grows c = λ founder limit before after events world. world_extends founder limit before events after world
