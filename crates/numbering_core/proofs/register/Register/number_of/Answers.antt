use Rattle.std.proofs.Common.{◌≡◌, List, reverse, Option, Some, None, IfSome, sym, subst, ◌∙◌}
use Rattle.packed_names.specs.declared.name.Designation.{Designation}
use Rattle.packed_names.specs.declared.number.Number.{Number}
use Rattle.packed_names.specs.Ranges.{IsNumber}
use Rattle.packed_names.specs.Laws.{OrderLaws}
use Rattle.numbering_core.specs.declared.numbering.Numbering.{Numbering}
use Rattle.numbering_core.specs.Numbers.{number_of, named, IsUnbroken}
use Rattle.numbering_core.specs.RegisterValue.{RegisterValue}
use Rattle.numbering_core.proofs.NumberLemmas.{named_from, in_range}
use Rattle.numbering_core.proofs.register.Register.number_of.Goals as goal

names : (orders : OrderLaws) (numbered : List Numbering) (d : Designation) (answer : Option Number) → answer ≡ number_of numbered d → IsUnbroken numbered → IfSome answer (λ n. named numbered n.0 ≡ Some d)
names orders numbered d None is row = tt
names orders numbered d (Some n) is row = named_from orders numbered row n d (sym is)

ranges : (orders : OrderLaws) (numbered : List Numbering) (d : Designation) (answer : Option Number) → answer ≡ number_of numbered d → IsUnbroken numbered → IfSome answer (λ n. IsNumber n.0)
ranges orders numbered d None is row = tt
ranges orders numbered d (Some n) is row = in_range orders numbered row n d (sym is)

pub returns-clause-named : goal.returns-clause-named
returns-clause-named c =
    let numbered = reverse c.self.inside.numbered.items in
    let answer : c.number_of.result ≡ number_of numbered c.args.d = c.number_of.ensures ∙ c.self.invariant.0.indexed c.args.d in
    subst (λ (v : RegisterValue). IfSome c.number_of.result (λ n. named v.numbered n.0 ≡ Some c.args.d)) c.self.view_is (names c.orders.ensures numbered c.args.d c.number_of.result answer c.self.invariant.0.row)

pub returns-clause-range : goal.returns-clause-range
returns-clause-range c =
    let numbered = reverse c.self.inside.numbered.items in
    let answer : c.number_of.result ≡ number_of numbered c.args.d = c.number_of.ensures ∙ c.self.invariant.0.indexed c.args.d in
    ranges c.orders.ensures numbered c.args.d c.number_of.result answer c.self.invariant.0.row
