use Rattle.std.proofs.Common.{ap, ◌∙◌}
use Rattle.act_model.specs.Deeds.{deeds}
use Rattle.comet_model.specs.Namings.{naming_of}
use Rattle.comet_core.proofs.WorkLemmas.{names_read}
use Rattle.comet_core.proofs.register.Register.prepare_new.Goals as goal

pub ready-requires-clause-named : goal.ready-requires-clause-named
ready-requires-clause-named g c =
    names_read (deeds (g.V.Shelf.history c.args.shelf.now)) c.args.self.now.comets _ c.args.naming c.in-Ok.named (ap naming_of c.in-Ok-from_slice.ensures ∙ c.requires.read) c.in-Ok.ensures.given
