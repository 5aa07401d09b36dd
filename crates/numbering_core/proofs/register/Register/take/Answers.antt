use Rattle.std.proofs.Common.{◌≡◌, List, [], ◌∷◌, IfSome, reverse, ap, sym, subst, ◌∙◌}
use Rattle.std.proofs.lemmas.List.{reverse-append}
use Rattle.packed_names.specs.contracts.name.DesignationOrd.TheImpl as derived
use Rattle.numbering_core.specs.declared.numbering.Numbering.{Numbering}
use Rattle.numbering_core.specs.Numbers.{number_of, next_number}
use Rattle.numbering_core.specs.Verdicts.{verdict_of}
use Rattle.numbering_core.specs.Indexes.{IsKept, verdicts_in}
use Rattle.numbering_core.specs.contracts.entry.NumberEntryOrd.TheImpl as by_number
use Rattle.numbering_core.specs.Open.{AreOpen}
use Rattle.numbering_core.specs.RegisterValue.{RegisterValue}
use Rattle.numbering_core.proofs.IndexLemmas.{one_more}
use Rattle.numbering_core.proofs.OpenLemmas.{number_given}
use Rattle.numbering_core.proofs.register.Register.take.Goals as goal

pub invariant_of-self : goal.invariant_of-self
invariant_of-self c =
    let newest : Numbering = record { designation = c.args.d; number = c.args.n } in
    let before = c.self.inside.numbered.items in
    let verdicts = verdict_of (verdicts_in c.self.inside.verdicts.items) in
    let after : reverse c.push_reserved.new.self.items ≡ newest ∷ reverse before = ap reverse c.push_reserved.ensures.items ∙ reverse-append before (newest ∷ []) in
    let next = subst (λ (v : RegisterValue). IfSome (next_number v.numbered) (λ next. c.args.n.0 ≡ next)) (sym c.self.view_is) c.requires.next in
    let unnumbered = ap (λ (v : RegisterValue). number_of v.numbered c.args.d) c.self.view_is ∙ c.requires.unnumbered in
    let kept : IsKept (by_number.ghosts).cmp (newest ∷ reverse before) c.insert.new.self.items =
    record {
      row = (c.requires.number, next, unnumbered, c.self.invariant.0.row);
      indexed = one_more c.orders.ensures newest (reverse before) c.self.inside.entries.items c.insert.new.self.items c.insert.ensures.finds c.self.invariant.0.indexed;
    } in
    let beside = number_given c.orders.ensures verdicts newest (reverse before) c.self.inside.open.items c.close.new.open.items c.close.ensures.finds c.self.invariant.1 in (
      subst (λ (ns : List Numbering). IsKept (by_number.ghosts).cmp ns c.insert.new.self.items) (sym after) kept,
      subst (λ (ns : List Numbering). AreOpen (derived.ghosts).cmp verdicts ns c.close.new.open.items) (sym after) beside,
    )
