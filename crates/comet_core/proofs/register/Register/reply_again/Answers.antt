use Rattle.std.proofs.Common.{ℕ, sym, ap, ◌∙◌, ◌++◌}
use Rattle.act_model.specs.Deeds.{deeds}
use Rattle.act_model.specs.Texts.{receipt_line}
use Rattle.comet_model.specs.declared.reply.CometReply.TheVariants.{Refused}
use Rattle.comet_model.specs.declared.reply.CometRefusal.TheVariants.{OtherRequest}
use Rattle.comet_model.specs.Texts.{comet_line}
use Rattle.comet_core.proofs.SliceLemmas.{slice_within, slice_at}
use Rattle.comet_core.proofs.WorkLemmas.{stands_at, entry_within, comet_within, done_again, other_again, entry_at, comet_at}
use Rattle.comet_core.proofs.register.Register.reply_again.Goals as goal

pub receipt_at-receipt-requires : goal.receipt_at-receipt-requires
receipt_at-receipt-requires g c =
    let desk = deeds (g.V.Shelf.history c.args._shelf.now) in
    let here = c.args.self.now in
    let s = stands_at desk here c.args.number c.args.place c.requires.over (c.each_entry_names.ensures here.founder desk here.entries c.requires.over.legal) c.requires.used in
    slice_within c.as_slice-entries.result.now here.entries (c.as_slice-entries.ensures ∙ c.book.ensures) c.args.place (entry_within desk here c.args.number c.args.place s)

pub is_resent-requires : goal.is_resent-requires
is_resent-requires g c =
    let desk = deeds (g.V.Shelf.history c.args._shelf.now) in
    let here = c.args.self.now in
    let s = stands_at desk here c.args.number c.args.place c.requires.over (c.each_entry_names.ensures here.founder desk here.entries c.requires.over.legal) c.requires.used in
    slice_within c.as_slice-entries.result.now here.entries (c.as_slice-entries.ensures ∙ c.book.ensures) c.args.place (entry_within desk here c.args.number c.args.place s)

pub comet_at-named-requires : goal.comet_at-named-requires
comet_at-named-requires g c =
    let desk = deeds (g.V.Shelf.history c.args._shelf.now) in
    let here = c.args.self.now in
    let s = stands_at desk here c.args.number c.args.place c.requires.over (c.each_entry_names.ensures here.founder desk here.entries c.requires.over.legal) c.requires.used in
    slice_within c.as_slice.result.now here.comets (c.as_slice.ensures ∙ c.comets.ensures) c.args.place (comet_within desk here c.args.number c.args.place s)

-- another request
pub returns-then-not-is_resent : goal.returns-then-not-is_resent
returns-then-not-is_resent g c = λ k kept_is.
    let desk = deeds (g.V.Shelf.history c.args._shelf.now) in
    let here = c.args.self.now in
    let s = stands_at desk here c.args.number c.args.place c.requires.over (c.each_entry_names.ensures here.founder desk here.entries c.requires.over.legal) c.requires.used in
    let there = slice_at c.as_slice-entries.result.now here.entries (c.as_slice-entries.ensures ∙ c.book.ensures) c.args.place s.k.entry (entry_at desk here c.args.number c.args.place s) in
    ap (λ (n : ℕ). Refused (OtherRequest n)) c.receipt_at-receipt.ensures
    ∙ other_again desk here c.args.number c.args.place s c.args.bytes.now (sym (c.is_resent.ensures s.k.entry there) ∙ c.if-not-is_resent.true) k kept_is

-- the request that became the entry
pub returns : goal.returns
returns g c = λ k kept_is.
    let desk = deeds (g.V.Shelf.history c.args._shelf.now) in
    let here = c.args.self.now in
    let s = stands_at desk here c.args.number c.args.place c.requires.over (c.each_entry_names.ensures here.founder desk here.entries c.requires.over.legal) c.requires.used in
    let there = slice_at c.as_slice-entries.result.now here.entries (c.as_slice-entries.ensures ∙ c.book.ensures) c.args.place s.k.entry (entry_at desk here c.args.number c.args.place s) in
    let named = c.comet_at-named.ensures s.stands.comet (slice_at c.as_slice.result.now here.comets (c.as_slice.ensures ∙ c.comets.ensures) c.args.place s.stands.comet (comet_at desk here c.args.number c.args.place s)) in
    done_again desk here c.args.number c.args.place s c.args.bytes.now c.in_ok-text.text c.comet_at-named.result named
    (c.in_ok-text.ensures ∙ ap (λ (n : ℕ). receipt_line n ++ comet_line c.comet_at-named.result.comet) c.receipt_at-receipt.ensures)
    (sym (c.is_resent.ensures s.k.entry there) ∙ c.if-not-is_resent.false) k kept_is
