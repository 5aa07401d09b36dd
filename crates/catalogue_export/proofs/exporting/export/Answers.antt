use Rattle.std.proofs.Common.{◌≡◌, ◌-◌, ◌^◌, ℕ, List, length, min, subst, IfOk, OnOk, OnErr}
use Rattle.std.specs.Io.KnownBytes.{Appends}
use Rattle.desk_io.specs.Outside.{AppendsPart}
use Rattle.catalogue_export.specs.Exports.{AppendsFront}
use Rattle.catalogue_export.proofs.exporting.export.Goals as goal

pub returns-clause-whole : goal.returns-clause-whole
returns-clause-whole g c =
    subst (λ (all : List ℕ). OnOk c.write_pages.result (Appends (g.K.Sink.taken c.args.sink.now) (g.K.Sink.taken c.write_pages.new.sink) all)) (c.new-pages.ensures.all (g.V.Shelf.history c.args.shelf.now)) c.write_pages.ensures.whole

pub returns-clause-amount : goal.returns-clause-amount
returns-clause-amount g c = subst (λ (all : List ℕ). IfOk c.write_pages.result (λ n. n ≡ min (length all) (2 ^ 64 - 1))) (c.new-pages.ensures.all (g.V.Shelf.history c.args.shelf.now)) c.write_pages.ensures.amount

pub returns-clause-cut : goal.returns-clause-cut
returns-clause-cut g c = λ is.
    subst (AppendsPart (g.K.Sink.taken c.args.sink.now) (g.K.Sink.taken c.write_pages.new.sink)) (c.new-pages.ensures.all (g.V.Shelf.history c.args.shelf.now)) (c.write_pages.ensures.cut is)

pub returns-clause-part : goal.returns-clause-part
returns-clause-part g c =
    subst (λ (all : List ℕ). OnErr c.write_pages.result (AppendsFront (g.K.Sink.taken c.args.sink.now) (g.K.Sink.taken c.write_pages.new.sink) all)) (c.new-pages.ensures.all (g.V.Shelf.history c.args.shelf.now)) c.write_pages.ensures.part
