use Rattle.std.proofs.Common.{◌≡◌, ◌∷◌, Option, w64, subst, ◌∙◌}
use Rattle.std.specs.Prelude.{IfSome, IsSomeAnd}
use Rattle.std.proofs.lemmas.Int.{to_z-of_z}
use Rattle.act_model.specs.declared.entry.Entry.{Entry}
use Rattle.act_model.specs.Legal.{IsAdded}
use Rattle.mpc_desk.proofs.OpenLemmas.{on_ok, entry_same, comes_next}
use Rattle.mpc_desk.proofs.opening.replay.Goals as goal

pub returns-clause-taken : goal.returns-clause-taken
returns-clause-taken c =
    on_ok c.replay.result _ _
    (λ taken.
    comes_next c.args.core.now.founder c.args.core.now.history c.args.parcel.now c.replay.new.self.history
    (subst (λ (o : Option Entry). IsSomeAnd o (λ entry. IsAdded c.args.core.now.founder c.args.core.now.history entry × (c.replay.new.self.history ≡ entry ∷ c.args.core.now.history)))
    (entry_same c.caller.result c.number.result _ c.verb.result c.body.result.now c.args.parcel.now c.caller.ensures c.number.ensures (to_z-of_z w64 c.moment.result (record { sfits = c.moment.type_inv }) ∙ c.moment.ensures) c.verb.ensures c.body.ensures)
    taken))
    c.replay.ensures.added

-- the fields stay closed, since the verb of a number has fourteen cases
pub returns-clause-not_next : goal.returns-clause-not_next
returns-clause-not_next c = λ fault entry same added.
    subst (λ (o : Option Entry). IfSome o (λ (e : Entry). IsAdded c.args.core.now.founder c.args.core.now.history e → ⊥))
    (entry_same c.caller.result c.number.result _ c.verb.result c.body.result.now c.args.parcel.now c.caller.ensures c.number.ensures (to_z-of_z w64 c.moment.result (record { sfits = c.moment.type_inv }) ∙ c.moment.ensures) c.verb.ensures c.body.ensures ∙ same)
    (c.replay.ensures.not_legal fault) added
