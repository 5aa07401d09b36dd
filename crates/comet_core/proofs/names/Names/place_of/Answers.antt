use Rattle.std.proofs.Common.{◌≡◌, ℕ, ◌<◌, true, List, length, get_or, rules, ap, sym, subst, ◌∙◌, arith}
use Rattle.std.specs.Prelude.{bytes_eq}
use Rattle.std.proofs.lemmas.List.{length-map}
use Rattle.std.proofs.lemmas.Slice.Eq.{bytes_eq-Decides}
use Rattle.comet_core.specs.declared.names.KnownName.{KnownName}
use Rattle.comet_core.specs.Names.{NamesValue, object_of, name_mark, StandsAt}
use Rattle.comet_core.proofs.NameLemmas.{not_found}
use Rattle.comet_core.proofs.names.Names.place_of.Goals as goal

pub returns-in-Some-clause-there : goal.returns-in-Some-clause-there
returns-in-Some-clause-there c =
    let text = c.args.text.now in
    let place = c.in-Some.place in
    let names = c.self.inside.names.items in
    let many : length c.self.inside.index.marks ≡ length names = ap (λ (ms : List ℕ). length ms) c.self.invariant.0 ∙ length-map names name_mark in
    let within : place < length names = subst (λ (n : ℕ). place < n) many c.in-Some.ensures.within in
    let passes : (d : KnownName) → bytes_eq (get_or names place d).text text ≡ true = λ d. search rules in
    subst (λ (v : NamesValue). StandsAt v.names place text) c.self.view_is
    (within, λ d. (bytes_eq-Decides (get_or names place d).text text).0 (passes d))

pub returns-in-None-clause-none : goal.returns-in-None-clause-none
returns-in-None-clause-none c =
    let text = c.args.text.now in
    let names = c.self.inside.names.items in
    let many : length c.self.inside.index.marks ≡ length names = ap (λ (ms : List ℕ). length ms) c.self.invariant.0 ∙ length-map names name_mark in
    ap (λ (v : NamesValue). object_of v.names text) (sym c.self.view_is)
    ∙ not_found names c.self.inside.index.marks text c.self.invariant.0 (λ place within marked d.
    let fails = c.in-None.ensures.none place (omega (arith, within, many)) (marked ∙ sym c.text_mark.ensures.mark) in
    search rules)
