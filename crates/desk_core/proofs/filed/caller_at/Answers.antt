use Rattle.std.proofs.Common.{sym, ap, ◌∙◌, Some, None}
use Rattle.std.specs.Option.{option_copied}
use Rattle.desk_core.proofs.FiledLemmas.{caller_numbered}
use Rattle.desk_core.proofs.filed.caller_at.Goals as goal

pub returns-in-Some : goal.returns-in-Some
returns-in-Some c = caller_numbered c.args.filed.now c.args.receipt (Some c.in-Some.f.now) (sym (ap option_copied c.in-Some.is) ∙ c.numbered.ensures)

pub returns-in-None : goal.returns-in-None
returns-in-None c = caller_numbered c.args.filed.now c.args.receipt None (sym (ap option_copied c.in-None.is) ∙ c.numbered.ensures)
