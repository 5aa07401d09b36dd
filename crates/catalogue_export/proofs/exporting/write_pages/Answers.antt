use Rattle.std.proofs.Common.{◌≡◌, ◌+◌, ◌-◌, ◌^◌, min, sym, ◌∙◌, take, arith}
use Rattle.catalogue_export.specs.PageTexts.{to_come}
use Rattle.catalogue_export.proofs.PageLemmas.{front_sent, part_sent, part_is_front, page_sent, on_ok, on_err}
use Rattle.catalogue_export.proofs.exporting.write_pages.Goals as goal

pub returns-in-Err-clause-part : goal.returns-in-Err-clause-part
returns-in-Err-clause-part g c =
    let history = g.V.Shelf.history c.args.shelf.now in
    front_sent (g.K.Sink.taken c.args.sink.now) (g.K.Sink.taken c.pages.sink) (to_come history c.args.pages.now) (to_come history c.pages.pages) c.pages.written c.pages.invariant.0

pub returns-then-is_err-clause-cut : goal.returns-then-is_err-clause-cut
returns-then-is_err-clause-cut g c = λ _.
    let history = g.V.Shelf.history c.args.shelf.now in
    part_sent (g.K.Sink.taken c.args.sink.now) (g.K.Sink.taken c.pages.sink) (g.K.Sink.taken c.write_all.new.sink) (to_come history c.args.pages.now) (to_come history c.pages.pages) (take c.in-Ok.count c.next.new.page) c.in-Ok.count c.pages.written
    c.pages.invariant.0 c.in-Ok.ensures.bytes
    (on_err c.write_all.result _ (sym c.is_err.ensures.value ∙ c.if-is_err.true) c.write_all.ensures.part)

pub returns-then-is_err-clause-part : goal.returns-then-is_err-clause-part
returns-then-is_err-clause-part g c =
    let history = g.V.Shelf.history c.args.shelf.now in
    part_is_front (g.K.Sink.taken c.args.sink.now) (g.K.Sink.taken c.write_all.new.sink) (to_come history c.args.pages.now)
    (part_sent (g.K.Sink.taken c.args.sink.now) (g.K.Sink.taken c.pages.sink) (g.K.Sink.taken c.write_all.new.sink) (to_come history c.args.pages.now) (to_come history c.pages.pages) (take c.in-Ok.count c.next.new.page) c.in-Ok.count c.pages.written
    c.pages.invariant.0 c.in-Ok.ensures.bytes
    (on_err c.write_all.result _ (sym c.is_err.ensures.value ∙ c.if-is_err.true) c.write_all.ensures.part))

pub pages-preserved : goal.pages-preserved
pages-preserved g c =
    let history = g.V.Shelf.history c.args.shelf.now in
    let ok = sym c.is_err.ensures.value ∙ c.if-is_err.false in
    let added : c.saturating_add-written.result ≡ min (c.pages.written + c.in-Ok.count) (2 ^ 64 - 1) = omega (arith, c.saturating_add-written.ensures) in (
      page_sent (g.K.Sink.taken c.args.sink.now) (g.K.Sink.taken c.pages.sink) (g.K.Sink.taken c.write_all.new.sink) (to_come history c.args.pages.now) (to_come history c.pages.pages) (to_come history c.next.new.self) (take c.in-Ok.count c.next.new.page)
          c.in-Ok.count c.pages.written c.saturating_add-written.result c.pages.invariant.0 c.in-Ok.ensures.bytes c.in-Ok.ensures.rest c.in-Ok.ensures.count
          (on_ok c.write_all.result _ ok c.write_all.ensures.whole) added,
      on_ok c.write_all.result _ ok c.write_all.ensures.faultless ∙ c.pages.invariant.1,
      c.write_all.ensures.stays ∙ c.pages.invariant.2,
    )
