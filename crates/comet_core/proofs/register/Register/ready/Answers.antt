use Rattle.std.proofs.Common.{Some, sym, ap, subst, ◌∙◌, ◌∷◌}
use Rattle.act_model.specs.Deeds.{deeds}
use Rattle.act_model.specs.declared.entry.Entry.{Entry}
use Rattle.comet_model.specs.declared.named.NamedComet.{NamedComet}
use Rattle.comet_model.specs.Register.{named_by}
use Rattle.comet_model.specs.Replies.{entry_answer}
use Rattle.comet_core.specs.Register.{IsNext}
use Rattle.comet_core.proofs.WorkLemmas.{next_is, answer_as}
use Rattle.comet_core.proofs.register.Register.ready.Goals as goal

pub returns-clause-at : goal.returns-clause-at
returns-clause-at g c =
    let desk = deeds (g.V.Shelf.history c.args._shelf.now) in
    let here = c.args.self.now in
    record {
      named = ap (named_by desk here.comets) c.new.ensures.entry ∙ c.requires.named ∙ ap (λ (n : NamedComet). Some n) (sym c.new.ensures.named);
      answer =
          c.new.ensures.answer
          ∙ answer_as desk here c.requires.over c.args.entry c.args.named c.requires.named c.in_ok-answer.answer c.next_receipt.result c.book.result.now.items c.in_ok-answer.ensures c.next_receipt.ensures c.book.ensures
          ∙ ap (λ (e : Entry). entry_answer desk here.entries e) (sym c.new.ensures.entry);
    }

pub returns-clause-next : goal.returns-clause-next
returns-clause-next g c =
    let history = g.V.Shelf.history c.args._shelf.now in
    let here = c.args.self.now in
    subst (λ (n : NamedComet). IsNext here.comets n) (sym c.new.ensures.named)
    (next_is (deeds history) here c.requires.over c.args.entry c.args.named c.requires.named (c.names_are_comets.ensures history (c.args.entry ∷ here.entries)) (c.unbroken_names.ensures (deeds history) (c.args.entry ∷ here.entries)) c.orders.ensures.halves)
