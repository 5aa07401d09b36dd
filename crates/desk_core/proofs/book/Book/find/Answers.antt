use Rattle.std.proofs.Common.{◌≡◌, ◌<◌, length, Some, IfSome, subst, ◌∙◌}
use Rattle.act_model.specs.History.{Kept, numbered_entry}
use Rattle.desk_core.specs.Filed.{history_of, IsFiledAt}
use Rattle.desk_core.specs.Book.{BookValue}
use Rattle.desk_core.proofs.BookLemmas.{found_within, found_at}
use Rattle.desk_core.proofs.book.Book.find.Goals as goal

pub returns-clause-within : goal.returns-clause-within
returns-clause-within c =
    subst (λ (v : BookValue). IfSome c.look_up.result (λ place. place < length v.items)) c.self.view_is
    (found_within c.self.inside.filed.items c.args.caller c.args.number c.look_up.result (c.look_up.ensures ∙ c.self.invariant c.args.caller c.args.number))

pub returns-clause-found : goal.returns-clause-found
returns-clause-found c =
    subst (λ (v : BookValue). IfSome c.look_up.result (λ place. (k : Kept) × (numbered_entry (history_of v.items) c.args.caller c.args.number ≡ Some k) × IsFiledAt v.items place k)) c.self.view_is
    (found_at c.self.inside.filed.items c.args.caller c.args.number c.look_up.result (c.look_up.ensures ∙ c.self.invariant c.args.caller c.args.number))
