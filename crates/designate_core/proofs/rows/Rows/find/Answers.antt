use Rattle.std.proofs.Common.{◌≡◌, Option, Some, None, IsSome, sym, subst, ap, ◌∙◌, refl}
use Rattle.std.specs.Prelude.{ℕ, reverse, IfSome}
use Rattle.packed_names.specs.declared.name.Designation.{Designation}
use Rattle.packed_names.specs.Ranges.{IsDesignation}
use Rattle.designate_core.specs.Takes.{RowsValue, discovery_of}
use Rattle.designate_core.specs.RowEntries.{acts_of}
use Rattle.designate_core.proofs.RowLemmas.{found, contained}
use Rattle.designate_core.proofs.EntryLemmas.{taken_named}
use Rattle.designate_core.proofs.rows.Rows.find.Goals as goal

pub returns-clause-given : goal.returns-clause-given
returns-clause-given c =
    let d = c.args.d in
    let acts = c.args.self.now.acts in
    let answer : c.discovery_of.result ≡ discovery_of d acts =
    c.discovery_of.ensures ∙ c.self.invariant.indexed d ∙ ap (λ (rows : RowsValue). discovery_of d rows.acts) c.self.view_is in
    (λ some. found c.orders.ensures d acts (subst IsSome answer some), λ among. subst IsSome (sym answer) (contained c.orders.ensures d acts among))

if_some : (d : Designation) (answer : Option ℕ) → (IsSome answer → IsDesignation d) → IfSome answer (λ _. IsDesignation d)
if_some d None named = tt
if_some d (Some n) named = named refl

pub returns-clause-name : goal.returns-clause-name
returns-clause-name c =
    let d = c.args.d in
    let answer : c.discovery_of.result ≡ discovery_of d (acts_of c.self.inside.came.items) = c.discovery_of.ensures ∙ c.self.invariant.indexed d in
    if_some d c.discovery_of.result (λ some. taken_named c.orders.ensures d (reverse c.self.inside.came.items) c.self.invariant.named (subst IsSome answer some))
