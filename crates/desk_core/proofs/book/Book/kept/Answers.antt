use Rattle.std.proofs.Common.{List, Some, sym, ap, subst, ◌∙◌}
use Rattle.std.specs.Option.{option_map}
use Rattle.act_model.specs.declared.reply.Reply.{Reply}
use Rattle.desk_core.specs.declared.filed.Filed.{Filed}
use Rattle.desk_core.specs.Filed.{done_reply, IsFiledAt}
use Rattle.desk_core.proofs.book.Book.kept.Goals as goal

pub returns-in-Some : goal.returns-in-Some
returns-in-Some c =
    let found = c.in-Some.ensures.found in
    let at = subst (λ (filed : List Filed). IsFiledAt filed c.in-Some.place found.0) (sym c.as_slice.ensures) found.2 in
    ap (λ (r : Reply). Some r) (c.reply_at.ensures.reply found.0 at) ∙ ap (option_map done_reply) (sym found.1)

pub returns-in-None : goal.returns-in-None
returns-in-None c = ap (option_map done_reply) (sym c.in-None.ensures.none)
