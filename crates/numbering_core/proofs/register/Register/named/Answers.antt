use Rattle.std.proofs.Common.{◌≡◌, List, reverse, Option, Some, None, IfSome, sym, ap, subst, ◌∙◌}
use Rattle.packed_names.specs.declared.name.Designation.{Designation}
use Rattle.packed_names.specs.declared.number.Number.{Number}
use Rattle.packed_names.specs.Laws.{OrderLaws}
use Rattle.numbering_core.specs.declared.numbering.Numbering.{Numbering}
use Rattle.numbering_core.specs.Numbers.{number_of, named, IsUnbroken}
use Rattle.numbering_core.specs.RegisterValue.{RegisterValue}
use Rattle.numbering_core.proofs.NumberLemmas.{numbered_from}
use Rattle.numbering_core.proofs.register.Register.named.Goals as goal

numbers : (orders : OrderLaws) (numbered : List Numbering) (n : Number) (answer : Option Designation) → answer ≡ named numbered n.0 → IsUnbroken numbered → IfSome answer (λ d. number_of numbered d ≡ Some n)
numbers orders numbered n None is row = tt
numbers orders numbered n (Some d) is row = numbered_from orders numbered row n d (sym is)

pub returns-clause-numbered : goal.returns-clause-numbered
returns-clause-numbered c =
    let numbered = reverse c.self.inside.numbered.items in
    let answer : c.named.result ≡ named numbered c.args.n.0 = c.named.ensures ∙ ap (λ (ns : List Numbering). named (reverse ns) c.args.n.0) c.as_slice.ensures.value in
    subst (λ (v : RegisterValue). IfSome c.named.result (λ d. number_of v.numbered d ≡ Some c.args.n)) c.self.view_is (numbers c.orders.ensures numbered c.args.n c.named.result answer c.self.invariant.0.row)
