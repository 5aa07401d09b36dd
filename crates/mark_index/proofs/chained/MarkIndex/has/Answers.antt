use Rattle.std.proofs.Common.{◌≡◌, false, length, rules, subst, ◌∙◌, arith}
use Rattle.std.specs.List.{list_any}
use Rattle.std.specs.Prelude.{◌==◌}
use Rattle.std.proofs.lemmas.List.{get_or_default}
use Rattle.mark_index.specs.Marked.{Marked}
use Rattle.mark_index.proofs.ChainLemmas.{none_has, has_own_tag}
use Rattle.mark_index.proofs.chained.MarkIndex.has.Goals as goal

pub returns-else-has_tag : goal.returns-else-has_tag
returns-else-has_tag c =
    let marks = c.self.inside.marks.items in
    let table = c.self.inside.slots.items in
    let slots : c.len.result ≡ length table = search rules in
    let found = c.index.ensures ∙ get_or_default table c.slot_of.result _ _ (omega (arith, c.slot_of.ensures.within, slots)) in
    let none = none_has c.args.mark marks (λ i within marked.
    let tagged = c.has_tag.ensures.1 (has_own_tag marks _ table _ _ c.args.mark _ c.self.invariant slots c.slot_of.ensures.slot found c.requires i within marked) in
    search rules) in
    c.if-has_tag.false
    ∙ subst (λ (v : Marked). false ≡ list_any (λ own. own == c.args.mark) v.marks) c.self.view_is none
