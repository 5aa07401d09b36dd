use Rattle.std.proofs.Common.{◌∙◌, ap, sym, subst}
use Rattle.std.specs.Prelude.{IsFalse, reverse}
use Rattle.designate_core.specs.Takes.{RowsValue, is_begun}
use Rattle.designate_core.specs.Indexes.{count_of}
use Rattle.designate_core.proofs.EntryLemmas.{newest_first, opened_kept}
use Rattle.designate_core.proofs.rows.Rows.open.Goals as goal

pub invariant_of-self : goal.invariant_of-self
invariant_of-self c =
    let came = c.self.inside.came.items in
    let pushed = ap reverse c.push_reserved.ensures.items ∙ newest_first came _ in
    let unbegun = subst (λ (rows : RowsValue). IsFalse (is_begun c.args.half rows.acts)) (sym c.self.view_is) c.requires.unbegun in
    opened_kept c.orders.ensures (reverse came) (reverse c.push_reserved.new.self.items) c.self.inside.counts.items c.insert.new.self.items c.self.inside.discoveries.items c.args.half c.args.given
    pushed c.self.invariant (unbegun, c.requires.from, c.requires.within) (λ half. c.insert.ensures.finds (count_of half 0))
