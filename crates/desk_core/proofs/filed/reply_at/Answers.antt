use Rattle.std.proofs.Common.{sym, ap, subst, ◌∙◌}
use Rattle.desk_core.specs.declared.filed.Filed.{Filed}
use Rattle.desk_core.specs.Filed.{IsDone}
use Rattle.desk_core.proofs.Kept.{reply_given, reply_done}
use Rattle.desk_core.proofs.filed.reply_at.Goals as goal

pub returns-clause-reply : goal.returns-clause-reply
returns-clause-reply c = λ k at.
    ap (λ (f : Filed). f.reply) (sym c.index-filed-place.is)
    ∙ reply_given c.args.filed.now c.args.place c.index-filed-place.result c.requires.answered c.index-filed-place.is k at

pub returns-clause-done : goal.returns-clause-done
returns-clause-done c =
    subst (λ (f : Filed). IsDone f.reply) c.index-filed-place.is
    (reply_done c.args.filed.now c.args.place c.index-filed-place.result c.requires.answered c.requires.within c.index-filed-place.is)
