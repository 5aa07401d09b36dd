use Rattle.act_model.proofs.Worlds.{conduct_world, world_conduct}
use Rattle.act_model.proofs.laws.conducts_are_worlds.Goals as goal

pub returns-clause-world : goal.returns-clause-world
returns-clause-world c = λ founder limit before after received turns. conduct_world founder limit before received turns after

pub returns-clause-conduct : goal.returns-clause-conduct
returns-clause-conduct c = λ founder limit before after turns. world_conduct founder limit before turns after
