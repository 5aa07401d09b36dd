use Rattle.std.proofs.Common.{ap, sym, ◌∙◌, ◌+◌, ◌∷◌, []}
use Rattle.std.specs.Prelude.{ℕ, reverse}
use Rattle.std.proofs.lemmas.List.{reverse-append}
use Rattle.comet_model.specs.Comets.{count_in}
use Rattle.comet_core.specs.Comets.{CometsValue, count_key, object_key}
use Rattle.comet_core.proofs.CometLemmas.{kept_more}
use Rattle.comet_core.proofs.comets.Comets.push.Goals as goal

pub invariant_of-self : goal.invariant_of-self
invariant_of-self c =
    let named = c.args.named in
    let older = c.self.inside.named.items in
    let counted = c.count_in-comets.ensures ∙ ap (λ (v : CometsValue). count_in named.comet.half v.items) (sym c.self.view_is) in
    kept_more c.orders.ensures _ _ (reverse older) named c.self.inside.counts.items c.insert.new.self.items c.self.inside.objects.items c.insert-2.new.self.items c.self.inside.names.names c.set.new.self.names c.self.invariant
    (reverse c.push_reserved.new.self.items) (ap reverse c.push_reserved.ensures.items ∙ reverse-append older (named ∷ []))
    c.requires.comet (c.count_in-comets.result + 1) (ap (λ (n : ℕ). n + 1) counted) c.pack_comet.result c.pack_comet.ensures
    (λ half. c.insert.ensures.finds (count_key half 0)) (λ d comet. c.insert-2.ensures.finds (object_key d comet)) c.set.ensures.finds
